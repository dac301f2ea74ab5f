-- `check_texts::digits_padded` meets its contract. The invariant: the flag says what the bytes passed say. Assumes nothing.
use mathlib.Core.Path.{◌≡◌}
use Rattle.lists.specs.Lists.{all, numbers}
use Rattle.check_texts.specs.Stored.{digit_padded}
use Rattle.check_texts.proofs.digits_padded.Given as goal

abbrev pub invariant-loop-k : goal.invariant-loop-k
invariant-loop-k l = l.ok ≡ all (digit_padded l.last l.table l.at) (numbers 0 l.k)
