-- `carry_packet::send_created` meets its contract: the front of the printed text, as long as it says, is the handle. Assumes nothing.
use mathlib.Core.Path.{sym}
use native.Mathlib.Omega.{arith}
use lib.Seq.{length-take-le}
use Rattle.octets.proofs.Runs.{laid_as, room_as}
use Rattle.handle.proofs.Printing.{printed_fits}
use Rattle.carry_packet.proofs.Answers.{created_message, printed_short}
use Rattle.carry_packet.proofs.send_created.Goals as goal

pub slice_bounds-text-end : goal.slice_bounds-text-end
slice_bounds-text-end c = printed_fits _ c.requires.0 _ _ c.handle_of-created.ensures

pub slice_bounds-send-end : goal.slice_bounds-send-end
slice_bounds-send-end c = sym (length-take-le _ _ (printed_fits _ c.requires.0 _ _ c.handle_of-created.ensures))

pub send-requires : goal.send-requires
send-requires c =
    (omega (arith, printed_short _ c.requires.0 _ _ c.handle_of-created.ensures), room_as _ _ (created_message _ c.requires.0 _ _ c.handle_of-created.ensures _) _ _ c.requires.1)

pub returns : goal.returns
returns c = laid_as _ _ (created_message _ c.requires.0 _ _ c.handle_of-created.ensures _) _ _ _ _ c.send.ensures
