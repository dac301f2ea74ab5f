-- `command_status::put_status` meets its contract: the lines, and a line with a period. Assumes nothing.
use mathlib.Core.List.{map}
use Rattle.octets.proofs.Runs.{laid_as, laid_then, room_as, room_first, room_then}
use Rattle.lists.specs.Lists.{concat}
use Rattle.server.specs.Sizes.{connection_count}
use Rattle.server.specs.Layout.{table_of}
use Rattle.command.specs.Texts.{period_line, status_line}
use Rattle.command_order.specs.Listing.{listed}
use Rattle.command_status.proofs.Lines.{status_is}
use Rattle.command_status.proofs.put_status.Goals as goal

pub put_lines-end-requires : goal.put_lines-end-requires
put_lines-end-requires c =
    let x = concat (map (status_line (table_of connection_count c.args.table.now)) (listed c.in_order-listing.result)) in
    let e = status_is (table_of connection_count c.args.table.now) _ c.in_order-listing.ensures.1 in
    (c.requires.0, c.requires.1, c.in_order-listing.ensures.0, room_first _ x period_line _ (room_as _ _ e _ _ c.requires.2))

pub put-requires : goal.put-requires
put-requires c =
    let x = concat (map (status_line (table_of connection_count c.args.table.now)) (listed c.in_order-listing.result)) in
    let e = status_is (table_of connection_count c.args.table.now) _ c.in_order-listing.ensures.1 in
    room_then _ x period_line _ _ _ c.put_lines-end.ensures (room_as _ _ e _ _ c.requires.2)

pub returns : goal.returns
returns c =
    let x = concat (map (status_line (table_of connection_count c.args.table.now)) (listed c.in_order-listing.result)) in
    let e = status_is (table_of connection_count c.args.table.now) _ c.in_order-listing.ensures.1 in
    laid_as _ _ e _ _ _ _ (laid_then _ x period_line _ _ _ c.put_lines-end.ensures _ _ c.put.ensures)
