-- `plan_leave::unable_all` meets its contract. The invariant: the first i sets are without the connection. Assumes nothing.
use Prim.Native.Nat.{◌≤◌}
use mathlib.Core.Path.{◌≡◌}
use mathlib.Core.List.{map}
use lib.ListN.{length, take}
use Rattle.sets.specs.Sets.{remove}
use Rattle.plan_leave.proofs.unable_all.Given as goal

abbrev pub invariant-loop-i : goal.invariant-loop-i
invariant-loop-i l = (l.i ≤ 16) × (length l.next ≡ 16) × (take l.i l.next ≡ take l.i (map (λ s. remove s l.c) l.able))
