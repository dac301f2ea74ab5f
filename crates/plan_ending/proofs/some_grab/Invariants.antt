-- `plan_ending::some_grab` meets its contract. The invariant: the connection can grab some job if one was found before place i, or one is
-- from place i on. Assumes nothing.
use Prim.Native.Nat.{◌≤◌}
use mathlib.Core.Bool.{◌||◌}
use mathlib.Core.Path.{◌≡◌}
use lib.ListN.{drop}
use Rattle.server.specs.Layout.{table_of}
use Rattle.server.specs.Table.{grabbable}
use Rattle.lists.specs.Lists.{any}
use Rattle.server.specs.Sizes.{connection_count, job_count}
use Rattle.plan.specs.Values.{values_of}
use Rattle.plan_ending.proofs.some_grab.Given as goal

abbrev pub invariant-loop-i : goal.invariant-loop-i
invariant-loop-i l =
    (l.i ≤ job_count)
    × (any (grabbable (values_of (table_of connection_count l.table)).able l.c) (values_of (table_of connection_count l.table)).rows ≡ l.found || any (grabbable (values_of (table_of connection_count l.table)).able l.c) (drop l.i (values_of (table_of connection_count l.table)).rows))
