-- `check_texts::begun` meets its contract. The invariant: the flag says what the rows passed say. Assumes nothing.
use mathlib.Core.Path.{◌≡◌}
use Rattle.lists.specs.Lists.{all, numbers}
use lib.ListN.{get_or}
use Rattle.check_texts.specs.Stored.{begins_with}
use Rattle.check_texts.proofs.begun.Given as goal

abbrev pub invariant-loop-i : goal.invariant-loop-i
invariant-loop-i l = l.ok ≡ all (λ k. begins_with (get_or l.live k 0) (get_or l.first k 0)) (numbers 0 l.i)
