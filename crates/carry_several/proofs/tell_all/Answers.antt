-- `carry_several::tell_all` meets its contract: the front of the printed text, as long as it says, is the handle. Assumes nothing.
use mathlib.Core.Path.{sym}
use native.Mathlib.Omega.{arith}
use lib.Seq.{length-take-le}
use Rattle.handle.proofs.Printing.{printed_fits}
use Rattle.carry_packet.proofs.Answers.{handle_short, printed_data}
use Rattle.carry_several.proofs.tell_all.Goals as goal

pub slice_bounds-text-end : goal.slice_bounds-text-end
slice_bounds-text-end c = printed_fits _ c.requires.0 _ _ c.handle_of-failed.ensures

pub slice_bounds-send_all-end : goal.slice_bounds-send_all-end
slice_bounds-send_all-end c = sym (length-take-le _ _ (printed_fits _ c.requires.0 _ _ c.handle_of-failed.ensures))

pub send_all-requires : goal.send_all-requires
send_all-requires c =
    rw (printed_data _ c.requires.0 _ _ c.handle_of-failed.ensures) (c.requires.1, omega (arith, handle_short _ c.requires.0 c.args.serial), c.requires.2)

pub returns : goal.returns
returns c =
    rw (printed_data _ c.requires.0 _ _ c.handle_of-failed.ensures) at c.send_all.ensures
