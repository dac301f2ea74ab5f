-- `report_line::is_unfit` meets its contract: each length in turn, and then the table. Assumes nothing.
use Rattle.report_line.proofs.Answers.{short_text, short_table, long_enough}
use Rattle.report_line.proofs.is_unfit.Goals as goal

pub returns-then-text-lt-TEXT_SIZE : goal.returns-then-text-lt-TEXT_SIZE
returns-then-text-lt-TEXT_SIZE c = short_text _ _ c.if-text-lt-TEXT_SIZE.true

pub returns-then-table-lt-TABLE_SIZE : goal.returns-then-table-lt-TABLE_SIZE
returns-then-table-lt-TABLE_SIZE c = short_table _ _ c.if-text-lt-TEXT_SIZE.false c.if-table-lt-TABLE_SIZE.true

pub returns : goal.returns
returns c = long_enough _ _ c.if-text-lt-TEXT_SIZE.false c.if-table-lt-TABLE_SIZE.false _ c.is_sound.ensures
