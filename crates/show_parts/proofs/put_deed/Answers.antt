-- `show_parts::put_deed` meets its contract: the start of a line, the connection, and the word. Assumes nothing.
use mathlib.Core.List.{◌++◌}
use Rattle.handle.specs.Handle.{decimal}
use Rattle.octets.proofs.Runs.{laid_third, room_first, room_second, room_third}
use Rattle.show_table.specs.Standing.{below}
use Rattle.show_parts.proofs.put_deed.Goals as goal

pub put-digits-requires : goal.put-digits-requires
put-digits-requires c = room_first _ below (decimal c.args.connection ++ c.args.word.now) _ c.requires

pub put_number-end-requires : goal.put_number-end-requires
put_number-end-requires c = room_second _ below (decimal c.args.connection) c.args.word.now _ _ _ c.put-digits.ensures c.requires

pub put-requires : goal.put-requires
put-requires c = room_third _ below (decimal c.args.connection) c.args.word.now _ _ _ c.put-digits.ensures _ _ c.put_number-end.ensures c.requires

pub returns : goal.returns
returns c = laid_third _ below (decimal c.args.connection) c.args.word.now _ _ _ c.put-digits.ensures _ _ c.put_number-end.ensures _ _ c.put.ensures
