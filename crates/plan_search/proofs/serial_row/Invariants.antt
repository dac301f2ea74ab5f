-- `plan_search::serial_row` meets its contract. The invariant: the search among all rows is the search from row i on.
-- Assumes nothing.
use Prim.Native.Nat.{ℕ}
use mathlib.Core.Path.{◌≡◌}
use mathlib.Core.Bool.{Bool, ◌&&◌}
use lib.ListN.{drop}
use lib.Dec.{eqb}
use Rattle.server.specs.declared.JobRow.{JobRow}
use Rattle.lists.specs.Lists.{find}
use Rattle.server.specs.Table.{live}
use Rattle.lists.proofs.Lowest.{up_by}
use Rattle.plan_search.proofs.serial_row.Given as goal

abbrev pub numbered : ℕ → JobRow → Bool
numbered serial r = live r && eqb r.serial serial

abbrev pub invariant-loop-i : goal.invariant-loop-i
invariant-loop-i l = find (numbered l.serial) l.rows ≡ up_by l.i (find (numbered l.serial) (drop l.i l.rows))
