-- `show_packet::put_line` meets its contract: the connection, the arrow, and what the reader answers of the packet. Assumes nothing.
use mathlib.Core.List.{◌++◌}
use Rattle.packet.specs.Packet.{direction_of}
use Rattle.packet.proofs.Sides.{side_most}
use Rattle.handle.specs.Handle.{decimal}
use Rattle.show_packet.specs.Lines.{arrow, saying}
use Rattle.octets.proofs.Runs.{laid_as, laid_third, room_as, room_first, room_second, room_third}
use Rattle.show_packet.proofs.Said.{packet_short, refused_long, said_packet, said_refused}
use Rattle.show_packet.proofs.put_line.Goals as goal

pub put_number-arrow-requires : goal.put_number-arrow-requires
put_number-arrow-requires c =
    room_first _ (decimal c.args.connection) (arrow c.args.side ++ saying (direction_of c.args.side) c.args.packet.now) _ c.requires

pub put_arrow-place-requires : goal.put_arrow-place-requires
put_arrow-place-requires c =
    room_second _ (decimal c.args.connection) (arrow c.args.side) (saying (direction_of c.args.side) c.args.packet.now) _ _ _ c.put_number-arrow.ensures c.requires

pub put_refused-requires : goal.put_refused-requires
put_refused-requires c =
    let e = c.in-Err.ensures in
    (refused_long (direction_of c.args.side) _ _ e _ c.number.ensures, room_as _ _ (said_refused (direction_of c.args.side) _ _ e _ c.number.ensures) _ _ (room_third _ (decimal c.args.connection) (arrow c.args.side) (saying (direction_of c.args.side) c.args.packet.now) _ _ _ c.put_number-arrow.ensures _ _ c.put_arrow-place.ensures c.requires))

pub put_packet-requires : goal.put_packet-requires
put_packet-requires c =
    let e = c.in-Ok.ensures in
    (packet_short (direction_of c.args.side) _ _ _ e (side_most c.args.side), room_as _ _ (said_packet (direction_of c.args.side) _ _ _ e _ c.shape_of.ensures) _ _ (room_third _ (decimal c.args.connection) (arrow c.args.side) (saying (direction_of c.args.side) c.args.packet.now) _ _ _ c.put_number-arrow.ensures _ _ c.put_arrow-place.ensures c.requires))

pub returns-in-Err : goal.returns-in-Err
returns-in-Err c =
    laid_third _ (decimal c.args.connection) (arrow c.args.side) (saying (direction_of c.args.side) c.args.packet.now) _ _ _ c.put_number-arrow.ensures _ _ c.put_arrow-place.ensures _ _
    (laid_as _ _ (said_refused (direction_of c.args.side) _ _ c.in-Err.ensures _ c.number.ensures) _ _ _ _ c.put_refused.ensures)

pub returns-in-Ok : goal.returns-in-Ok
returns-in-Ok c =
    laid_third _ (decimal c.args.connection) (arrow c.args.side) (saying (direction_of c.args.side) c.args.packet.now) _ _ _ c.put_number-arrow.ensures _ _ c.put_arrow-place.ensures _ _
    (laid_as _ _ (said_packet (direction_of c.args.side) _ _ _ c.in-Ok.ensures _ c.shape_of.ensures) _ _ _ _ c.put_packet.ensures)
