-- `check_texts::sizes_small` meets its contract. The invariant: the flag says what the rows passed say. Assumes nothing.
use mathlib.Core.Path.{◌≡◌}
use Rattle.lists.specs.Lists.{all, numbers}
use Rattle.check_texts.specs.Stored.{size_small}
use Rattle.check_texts.proofs.sizes_small.Given as goal

abbrev pub invariant-loop-i : goal.invariant-loop-i
invariant-loop-i l = l.ok ≡ all (size_small l.table) (numbers 0 l.i)
