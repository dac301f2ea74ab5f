-- `plan_ending::some_name` meets its contract. The invariant: some job that is left names the function if one was found before place i, or
-- one is from place i on. Assumes nothing.
use Prim.Native.Nat.{◌≤◌}
use mathlib.Core.Bool.{◌||◌}
use mathlib.Core.Path.{◌≡◌}
use lib.ListN.{set, drop}
use Rattle.server.specs.Layout.{table_of}
use Rattle.server.specs.Table.{no_row, names}
use Rattle.lists.specs.Lists.{any}
use Rattle.server.specs.Sizes.{connection_count, job_count}
use Rattle.plan.specs.Values.{values_of}
use Rattle.plan_ending.proofs.some_name.Given as goal

abbrev pub invariant-loop-i : goal.invariant-loop-i
invariant-loop-i l =
    (l.i ≤ job_count)
    × (any (names l.q) (set (values_of (table_of connection_count l.table)).rows l.over no_row) ≡ l.found || any (names l.q) (drop l.i (set (values_of (table_of connection_count l.table)).rows l.over no_row)))
