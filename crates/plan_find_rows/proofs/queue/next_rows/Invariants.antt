-- `plan_find_rows::queue::next_rows` meets its contract. The invariant: the best of the rows before this one. Assumes nothing.
use Prim.Native.Nat.{◌≤◌, ◌+◌}
use Rattle.plan_find_rows.specs.Queue.{BestOf}
use Rattle.plan_find_rows.proofs.queue.next_rows.Given as goal

abbrev pub invariant-loop-i : goal.invariant-loop-i
invariant-loop-i l = (l.p ≤ l.i) × (l.i ≤ l.p + 8) × BestOf l.table l.c l.i l.v
