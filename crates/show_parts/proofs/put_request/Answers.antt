-- `show_parts::put_request` meets its contract: the start of a line, and the request. Assumes nothing.
use Rattle.octets.proofs.Runs.{laid_then, room_first, room_then}
use Rattle.show_packet.specs.Lines.{request_line}
use Rattle.show_table.specs.Standing.{below}
use Rattle.show_parts.proofs.put_request.Goals as goal

pub put-place-requires : goal.put-place-requires
put-place-requires c = room_first _ below (request_line c.args.connection c.args.packet.now) _ c.requires

pub put_request-requires : goal.put_request-requires
put_request-requires c = room_then _ below (request_line c.args.connection c.args.packet.now) _ _ _ c.put-place.ensures c.requires

pub returns : goal.returns
returns c = laid_then _ below (request_line c.args.connection c.args.packet.now) _ _ _ c.put-place.ensures _ _ c.put_request.ensures
