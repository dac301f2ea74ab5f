-- `command_workers::put_if_open` meets its contract: the line, or nothing for a closed connection. Assumes nothing.
use Rattle.octets.proofs.Runs.{laid_as, laid_none, room_as}
use Rattle.server.specs.Sizes.{connection_count}
use Rattle.server.specs.Layout.{table_of}
use Rattle.command_order.specs.Listing.{listed}
use Rattle.command_workers.proofs.Lines.{open_is, open_none}
use Rattle.command_workers.proofs.put_if_open.Goals as goal

pub put_line-requires : goal.put_line-requires
put_line-requires c =
    (c.requires.0, c.requires.1, c.requires.2, room_as _ _ (open_is (table_of connection_count c.args.table.now) (listed c.args.listing) c.args.c _ c.connection_at.ensures c.if-connection_at.true) _ _ c.requires.3)

pub returns-then-connection_at : goal.returns-then-connection_at
returns-then-connection_at c =
    laid_as _ _ (open_is (table_of connection_count c.args.table.now) (listed c.args.listing) c.args.c _ c.connection_at.ensures c.if-connection_at.true) _ _ _ _ c.put_line.ensures

pub returns-else-connection_at : goal.returns-else-connection_at
returns-else-connection_at c =
    laid_as _ _ (open_none (table_of connection_count c.args.table.now) (listed c.args.listing) c.args.c _ c.connection_at.ensures c.if-connection_at.false) _ _ _ _ (laid_none _ _)
