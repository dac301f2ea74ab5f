-- `table_rows::able_at` meets its contract: inside it reads the place, and beyond the last there is nobody. Assumes nothing.
use Rattle.table_rows.proofs.Reading.{able_inside, able_beyond}
use borrow.Author.Rules.{rules}
use Rattle.table_rows.proofs.able_at.Goals as goal

pub returns-then-q-ge-FUNCTIONS : goal.returns-then-q-ge-FUNCTIONS
returns-then-q-ge-FUNCTIONS c = search (rules, able_beyond)

pub returns : goal.returns
returns c = search (rules, able_inside)
