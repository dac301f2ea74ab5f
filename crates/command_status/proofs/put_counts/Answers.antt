-- `command_status::put_counts` meets its contract: three counts, and a line feed. Assumes nothing.
use mathlib.Core.List.{◌++◌}
use Rattle.octets.proofs.Runs.{laid_then, laid_third, room_first, room_second, room_then, room_third}
use Rattle.handle.specs.Handle.{decimal}
use Rattle.command.specs.Texts.{line_feed, tab}
use Rattle.command_status.specs.Counts.{counts_text}
use Rattle.command_status.proofs.put_counts.Goals as goal

pub put_count-second-requires : goal.put_count-second-requires
unfolding counts_text
put_count-second-requires c =
    room_first _ (tab ++ decimal c.args.jobs) ((tab ++ decimal c.args.held) ++ ((tab ++ decimal c.args.able) ++ line_feed)) _ c.requires

pub put_count-third-requires : goal.put_count-third-requires
unfolding counts_text
put_count-third-requires c =
    room_second _ (tab ++ decimal c.args.jobs) (tab ++ decimal c.args.held) ((tab ++ decimal c.args.able) ++ line_feed) _ _ _ c.put_count-second.ensures c.requires

pub put_count-end-requires : goal.put_count-end-requires
unfolding counts_text
put_count-end-requires c =
    room_first _ (tab ++ decimal c.args.able) line_feed _ (room_third _ (tab ++ decimal c.args.jobs) (tab ++ decimal c.args.held) ((tab ++ decimal c.args.able) ++ line_feed) _ _ _ c.put_count-second.ensures _ _ c.put_count-third.ensures c.requires)

pub put-requires : goal.put-requires
unfolding counts_text
put-requires c =
    room_then _ (tab ++ decimal c.args.able) line_feed _ _ _ c.put_count-end.ensures (room_third _ (tab ++ decimal c.args.jobs) (tab ++ decimal c.args.held) ((tab ++ decimal c.args.able) ++ line_feed) _ _ _ c.put_count-second.ensures _ _ c.put_count-third.ensures c.requires)

pub returns : goal.returns
unfolding counts_text
returns c =
    laid_third _ (tab ++ decimal c.args.jobs) (tab ++ decimal c.args.held) ((tab ++ decimal c.args.able) ++ line_feed) _ _ _ c.put_count-second.ensures _ _ c.put_count-third.ensures _ _ (laid_then _ (tab ++ decimal c.args.able) line_feed _ _ _ c.put_count-end.ensures _ _ c.put.ensures)
