-- `plan_settle::woken` meets its contract. The invariant: the first i rows are made.
-- Assumes nothing.
use Prim.Native.Nat.{◌≤◌}
use mathlib.Core.Path.{◌≡◌}
use lib.ListN.{length, take}
use Rattle.server.specs.Sizes.{connection_count}
use Rattle.plan.specs.Busy.{woken_by}
use Rattle.plan_settle.proofs.woken.Given as goal

abbrev pub invariant-loop-i : goal.invariant-loop-i
invariant-loop-i l = (l.i ≤ connection_count) × (length l.next ≡ connection_count) × (take l.i l.next ≡ take l.i (woken_by l.busy l.connections))
