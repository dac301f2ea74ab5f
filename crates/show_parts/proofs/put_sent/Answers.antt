-- `show_parts::put_sent` meets its contract: the start of a line, and the response. Assumes nothing.
use Prim.Native.Nat.{◌-◌}
use lib.ListN.{length, get_or, take, drop}
use Rattle.show_packet.specs.Lines.{response_line}
use Rattle.octets.proofs.Runs.{laid_as, laid_then, room_as, room_first, room_then}
use Rattle.show_table.specs.Standing.{below}
use Rattle.show_parts.specs.Parts.{sent_text}
use Rattle.show_parts.proofs.Laid.{sent_as_lem}
use Rattle.show_parts.proofs.put_sent.Goals as goal

pub put-place-requires : goal.put-place-requires
unfolding sent_text
put-place-requires c = room_first _ below (response_line (get_or c.args.packet.now 0 0) (drop 1 c.args.packet.now)) _ c.requires.1

pub put_response-requires : goal.put_response-requires
put_response-requires c = room_then _ below (response_line (get_or c.args.packet.now 0 0) (take (length c.args.packet.now - 1) (drop 1 c.args.packet.now))) _ _ _ c.put-place.ensures (room_as _ _ (sent_as_lem _) _ _ c.requires.1)

pub returns : goal.returns
returns c = laid_as _ _ (sent_as_lem _) _ _ _ _ (laid_then _ below _ _ _ _ c.put-place.ensures _ _ c.put_response.ensures)
