-- `plan_rows::set_connection` meets its contract: nothing is put beyond the last place. Assumes nothing.
use borrow.Author.Rules.{rules}
use Rattle.server.specs.Sizes.{connection_count}
use Rattle.plan_rows.proofs.Beyond.{set_beyond}
use Rattle.plan_rows.proofs.set_connection.Goals as goal

pub returns-then-c-ge-CONNECTIONS : goal.returns-then-c-ge-CONNECTIONS
returns-then-c-ge-CONNECTIONS c = set_beyond _ connection_count _ (search rules) c.if-c-ge-CONNECTIONS.true _
