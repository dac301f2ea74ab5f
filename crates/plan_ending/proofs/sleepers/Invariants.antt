-- `plan_ending::sleepers` meets its contract. The invariant: the union over all connections is that of s and those from connection c on.
-- Assumes nothing.
use Prim.Native.Nat.{◌≤◌}
use mathlib.Core.Path.{◌≡◌}
use lib.ListN.{drop}
use Rattle.server.specs.Sizes.{connection_count}
use Rattle.server.specs.Layout.{table_of}
use Rattle.plan.specs.Values.{values_of}
use Rattle.plan.specs.Busy.{unions, wakes_now, to_wake_set}
use Rattle.plan_ending.proofs.sleepers.Given as goal

abbrev pub invariant-loop-c : goal.invariant-loop-c
invariant-loop-c l =
    (l.c ≤ connection_count) × (to_wake_set l.able (values_of (table_of connection_count l.table)).connections ≡ unions (wakes_now l.able) l.s l.c (drop l.c (values_of (table_of connection_count l.table)).connections))
