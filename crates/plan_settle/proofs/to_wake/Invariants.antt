-- `plan_settle::to_wake` meets its contract. The invariant: the union over all connections is that of s and those from
-- connection i on. Assumes nothing.
use Prim.Native.Nat.{◌≤◌}
use mathlib.Core.Path.{◌≡◌}
use lib.ListN.{drop}
use Rattle.server.specs.Sizes.{connection_count}
use Rattle.plan.specs.Busy.{unions, wakes_now, to_wake_set}
use Rattle.plan_settle.proofs.to_wake.Given as goal

abbrev pub invariant-loop-i : goal.invariant-loop-i
invariant-loop-i l = (l.i ≤ connection_count) × (to_wake_set l.busy l.connections ≡ unions (wakes_now l.busy) l.s l.i (drop l.i l.connections))
