-- `report_line::put_line` meets its contract: the start of the command, and right after it the line feed. Assumes nothing.
use Rattle.report_line.proofs.Commands.{held_room, feed_room, line_laid}
use Rattle.report_line.proofs.put_line.Goals as goal

pub put-end-requires : goal.put-end-requires
put-end-requires c = held_room _ c.args.command.now c.front.ensures _ c.requires

pub put-requires : goal.put-requires
put-requires c = feed_room _ c.args.command.now c.front.ensures _ c.requires _ _ c.put-end.ensures

pub returns : goal.returns
returns c = line_laid _ c.args.command.now c.front.ensures _ _ _ c.put-end.ensures _ _ c.put.ensures
