-- `check_ids::only_open` meets its contract. The invariant: the flag says what the connections passed say. Assumes nothing.
use Prim.Native.Nat.{◌+◌}
use mathlib.Core.Path.{◌≡◌}
use Rattle.lists.specs.Lists.{all, numbers}
use Rattle.check_ids.specs.Ids.{open_or_none}
use Rattle.check_ids.proofs.only_open.Given as goal

abbrev pub invariant-loop-i : goal.invariant-loop-i
invariant-loop-i l = l.ok ≡ all (λ k. open_or_none l.table (l.c + k)) (numbers 0 l.i)
