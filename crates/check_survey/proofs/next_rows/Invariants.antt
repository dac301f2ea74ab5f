-- `check_survey::next_rows` meets its contract: row after row. The invariant: the survey says what the rows before this one say. Assumes nothing.
use Rattle.check_survey.specs.Surveyed.{Surveyed}
use Rattle.check_survey.proofs.next_rows.Given as goal

abbrev pub invariant-loop-i : goal.invariant-loop-i
invariant-loop-i l = Surveyed l.table l.i l.v
