-- `table_rows::read_connections` meets its contract: the closure answers what the bytes hold at each place, and stays as it was. Assumes nothing.
use borrow.Author.Rules.{of_calls}
use Rattle.server.specs.Sizes.{connection_count}
use Rattle.server.specs.Table.{closed}
use Rattle.server.specs.Layout.{table_of, connection_in}
use Rattle.table_rows.proofs.Reading.{from_each}
use Rattle.table_rows.proofs.read_connections.Goals as goal

pub returns : goal.returns
unfolding table_of
returns c =
    from_each _ (connection_in connection_count c.args.table.now) _ (λ i x q h. (search of_calls, search of_calls)) c.from_fn.result connection_count closed c.from_fn.ensures.items
