-- `command_workers::put_line` meets its contract: the head, the names, and a line feed. Assumes nothing.
use mathlib.Core.List.{◌++◌}
use Rattle.octets.proofs.Runs.{laid_third, room_first, room_second, room_third}
use Rattle.server.specs.Sizes.{connection_count}
use Rattle.server.specs.Layout.{table_of}
use Rattle.command.specs.Texts.{line_feed}
use Rattle.command_order.specs.Listing.{listed}
use Rattle.command_workers.specs.Parts.{head_text, line_text, names_text}
use Rattle.command_workers.proofs.put_line.Goals as goal

pub put_head-names-requires : goal.put_head-names-requires
unfolding line_text
put_head-names-requires c =
    (c.requires.0, c.requires.2, room_first _ (head_text (table_of connection_count c.args.table.now) c.args.c) ((names_text (table_of connection_count c.args.table.now) (listed c.args.listing) c.args.c) ++ line_feed) _ c.requires.3)

pub put_names-end-requires : goal.put_names-end-requires
unfolding line_text
put_names-end-requires c =
    (c.requires.0, c.requires.1, c.requires.2, room_second _ (head_text (table_of connection_count c.args.table.now) c.args.c) (names_text (table_of connection_count c.args.table.now) (listed c.args.listing) c.args.c) line_feed _ _ _ c.put_head-names.ensures c.requires.3)

pub put-requires : goal.put-requires
unfolding line_text
put-requires c =
    room_third _ (head_text (table_of connection_count c.args.table.now) c.args.c) (names_text (table_of connection_count c.args.table.now) (listed c.args.listing) c.args.c) line_feed _ _ _ c.put_head-names.ensures _ _ c.put_names-end.ensures c.requires.3

pub returns : goal.returns
unfolding line_text
returns c =
    laid_third _ (head_text (table_of connection_count c.args.table.now) c.args.c) (names_text (table_of connection_count c.args.table.now) (listed c.args.listing) c.args.c) line_feed _ _ _ c.put_head-names.ensures _ _ c.put_names-end.ensures _ _ c.put.ensures
