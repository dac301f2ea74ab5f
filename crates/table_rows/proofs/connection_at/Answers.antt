-- `table_rows::connection_at` meets its contract: inside it reads the place, and beyond the last there is a closed connection. Assumes nothing.
use Rattle.table_rows.proofs.Reading.{connection_inside, connection_beyond}
use borrow.Author.Rules.{rules}
use Rattle.table_rows.proofs.connection_at.Goals as goal

pub returns-then-c-ge-CONNECTIONS : goal.returns-then-c-ge-CONNECTIONS
returns-then-c-ge-CONNECTIONS c = search (rules, connection_beyond)

pub returns : goal.returns
returns c = search (rules, connection_inside)
