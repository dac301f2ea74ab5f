-- `show_table::put_handle_line` meets its contract: the line's start, the word, and the handle. Assumes nothing.
use Rattle.handle.specs.Handle.{handle}
use mathlib.Core.List.{◌++◌}
use Rattle.octets.proofs.Runs.{laid_third, room_first, room_second, room_third}
use Rattle.show_table.specs.Standing.{below, handle_line}
use Rattle.show_table.proofs.put_handle_line.Goals as goal

pub put-start-requires : goal.put-start-requires
unfolding handle_line
put-start-requires c =
    room_first _ below (c.args.word.now ++ handle c.args.hub.now c.args.serial) _ c.requires.1

pub put-place-requires : goal.put-place-requires
unfolding handle_line
put-place-requires c =
    room_second _ below c.args.word.now (handle c.args.hub.now c.args.serial) _ _ _ c.put-start.ensures c.requires.1

pub put_handle-requires : goal.put_handle-requires
unfolding handle_line
put_handle-requires c =
    (c.requires.0, room_third _ below c.args.word.now (handle c.args.hub.now c.args.serial) _ _ _ c.put-start.ensures _ _ c.put-place.ensures c.requires.1)

pub returns : goal.returns
unfolding handle_line
returns c =
    laid_third _ below c.args.word.now (handle c.args.hub.now c.args.serial) _ _ _ c.put-start.ensures _ _ c.put-place.ensures _ _ c.put_handle.ensures
