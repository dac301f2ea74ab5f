-- `plan_find_rows::free_row` meets its contract: the lowest serial 0. Assumes nothing.
use mathlib.Core.Path.{refl}
use Rattle.plan_find_rows.proofs.Rows.{free_found}
use Rattle.plan_find_rows.proofs.free_row.Goals as goal

pub returns : goal.returns
returns c = free_found _ 0 _ _ c.fours-serials.ensures c.lowest.ensures refl
