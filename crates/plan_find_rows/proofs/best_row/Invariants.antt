-- `plan_find_rows::best_row` meets its contract. The invariant: the best of the rows before this group. It is kept by each group, and a
-- connection whose set is empty has nothing to find. Assumes nothing.
use Prim.Native.Nat.{◌*◌}
use Rattle.plan_find_rows.specs.Queue.{BestOf}
use Rattle.plan_find_rows.proofs.best_row.Given as goal

abbrev pub invariant-loop-group : goal.invariant-loop-group
invariant-loop-group l = BestOf l.table l.c (8 * l.group) l.v
