-- `plan_find_rows::queue::none_before` meets its contract. The invariant: none of the first k rows goes before the job. Assumes nothing.
use Prim.Native.Nat.{◌≤◌, ◌+◌}
use mathlib.Core.Path.{◌≡◌}
use Rattle.lists.specs.Lists.{all, numbers}
use Rattle.server.specs.Sizes.{connection_count}
use Rattle.server.specs.Layout.{row_in}
use Rattle.plan_find_rows.specs.Queue.{stays_behind}
use Rattle.plan_find_rows.proofs.queue.none_before.Given as goal

abbrev pub invariant-loop-k : goal.invariant-loop-k
invariant-loop-k l = (l.k ≤ 8) × (l.ok ≡ all (λ j. stays_behind l.priority l.serial (row_in connection_count l.table (l.p + j))) (numbers 0 l.k))
