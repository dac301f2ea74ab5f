-- `table_rows::row_at` meets its contract: inside it reads the place, and beyond the last there is a free row. Assumes nothing.
use Rattle.table_rows.proofs.Reading.{row_inside, row_beyond}
use borrow.Author.Rules.{rules}
use Rattle.table_rows.proofs.row_at.Goals as goal

pub returns-then-p-ge-JOBS : goal.returns-then-p-ge-JOBS
returns-then-p-ge-JOBS c = search (rules, row_beyond)

pub returns : goal.returns
returns c = search (rules, row_inside)
