-- `check_survey::next_row` meets its contract: a free row adds nothing but its unique; a job adds what it is. Assumes nothing.
use Rattle.check_survey.proofs.Walk.{row_free, row_job}
use borrow.Author.Rules.{rules}
use Rattle.check_survey.proofs.next_row.Goals as goal

pub returns-then-serial-eq0 : goal.returns-then-serial-eq0
returns-then-serial-eq0 c = search (rules, row_free)

pub returns : goal.returns
returns c = search (rules, row_job)
