-- `plan_find_rows::serial_row` meets its contract: the lowest place of the serial, if it is not 0. Assumes nothing.
use Rattle.plan_find_rows.proofs.Rows.{none_numbered, serial_found}
use Rattle.plan_find_rows.proofs.serial_row.Goals as goal

pub returns-then-serial-eq0 : goal.returns-then-serial-eq0
returns-then-serial-eq0 c = none_numbered _ _ c.if-serial-eq0.true

pub returns : goal.returns
returns c = serial_found _ _ _ _ c.fours-serials.ensures c.lowest.ensures c.if-serial-eq0.false
