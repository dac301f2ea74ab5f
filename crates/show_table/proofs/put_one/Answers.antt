-- `show_table::put_one` meets its contract: a space and the number, or nothing. Assumes nothing.
use Rattle.handle.specs.Handle.{decimal}
use Rattle.show_names.specs.Names.{space}
use Rattle.octets.proofs.Runs.{laid_as, laid_none, laid_then, room_as, room_first, room_then}
use Rattle.show_table.proofs.Connections.{if_not, if_so}
use Rattle.show_table.proofs.put_one.Goals as goal

pub put-place-requires : goal.put-place-requires
put-place-requires c =
    room_first _ space (decimal c.args.c) _ (room_as _ _ (if_so _ _ c.if-shown.true) _ _ c.requires.1)

pub put_number-requires : goal.put_number-requires
put_number-requires c =
    room_then _ space (decimal c.args.c) _ _ _ c.put-place.ensures (room_as _ _ (if_so _ _ c.if-shown.true) _ _ c.requires.1)

pub returns-then-shown : goal.returns-then-shown
returns-then-shown c =
    laid_as _ _ (if_so _ _ c.if-shown.true) _ _ _ _ (laid_then _ space (decimal c.args.c) _ _ _ c.put-place.ensures _ _ c.put_number.ensures)

pub returns : goal.returns
returns c = laid_as _ _ (if_not _ _ c.if-shown.false) _ _ _ _ (laid_none _ _)
