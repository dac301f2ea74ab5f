-- `show_table::put_handle` meets its contract: the front of the printed text, as long as it says, is the handle. Assumes nothing.
use mathlib.Core.Path.{sym}
use lib.Seq.{length-take-le}
use Rattle.handle.proofs.Printing.{printed_fits, printed_front}
use Rattle.octets.proofs.Runs.{laid_as, room_as}
use Rattle.show_table.proofs.put_handle.Goals as goal

pub slice_bounds-text-end : goal.slice_bounds-text-end
slice_bounds-text-end c = printed_fits _ c.requires.0 _ _ c.handle_of-printed.ensures

pub slice_bounds-put-end : goal.slice_bounds-put-end
slice_bounds-put-end c = sym (length-take-le _ _ (printed_fits _ c.requires.0 _ _ c.handle_of-printed.ensures))

pub put-requires : goal.put-requires
put-requires c = room_as _ _ (printed_front _ c.requires.0 _ _ c.handle_of-printed.ensures) _ _ c.requires.1

pub returns : goal.returns
returns c = laid_as _ _ (printed_front _ c.requires.0 _ _ c.handle_of-printed.ensures) _ _ _ _ c.put.ensures
