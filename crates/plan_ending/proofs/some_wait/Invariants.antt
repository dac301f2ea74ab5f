-- `plan_ending::some_wait` meets its contract. The invariant: some queued job names the function if one was found before place i, or one is
-- from place i on. Assumes nothing.
use Prim.Native.Nat.{◌≤◌}
use mathlib.Core.Bool.{◌||◌}
use mathlib.Core.Path.{◌≡◌}
use lib.ListN.{drop}
use Rattle.server.specs.Layout.{table_of}
use Rattle.lists.specs.Lists.{any}
use Rattle.server.specs.Sizes.{connection_count, job_count}
use Rattle.plan.specs.Values.{values_of}
use Rattle.plan.specs.Steps.{waits}
use Rattle.plan_ending.proofs.some_wait.Given as goal

abbrev pub invariant-loop-i : goal.invariant-loop-i
invariant-loop-i l = (l.i ≤ job_count) × (any (waits l.q) (values_of (table_of connection_count l.table)).rows ≡ l.found || any (waits l.q) (drop l.i (values_of (table_of connection_count l.table)).rows))
