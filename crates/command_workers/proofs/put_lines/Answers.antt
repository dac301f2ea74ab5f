use mathlib.Core.Path.{refl}
use native.Mathlib.Omega.{arith}
use Rattle.octets.proofs.Runs.{laid_as, room_as}
use Rattle.server.specs.Sizes.{connection_count}
use Rattle.server.specs.Layout.{table_of}
use Rattle.table_passes.proofs.Rows.{connections_length}
use Rattle.prints.proofs.Pieces.{end, start, turn, turn_room}
use Rattle.command_order.specs.Listing.{listed}
use Rattle.command_workers.specs.Parts.{open_text}
use Rattle.command_workers.proofs.Lines.{lines_are}
use borrow.Author.Rules.{rules}
use Rattle.command_workers.proofs.put_lines.Goals as goal

pub loop-c-init : goal.loop-c-init
loop-c-init c =
    (refl, start (open_text (table_of connection_count c.args.table.now) (listed c.args.listing)) c.args.at c.args.out.now)

pub put_if_open-place-requires : goal.put_if_open-place-requires
put_if_open-place-requires c =
    (c.requires.0, c.requires.1, omega arith, turn_room (open_text (table_of connection_count c.args.table.now) (listed c.args.listing)) c.args.at c.args.out.now c.loop-c.c c.loop-c.place c.loop-c.out c.loop-c.invariant.1 _ refl connection_count (omega arith) (room_as _ _ (lines_are (table_of connection_count c.args.table.now) (listed c.args.listing) connection_count (connections_length connection_count c.args.table.now)) _ _ c.requires.2))

pub loop-c-preserved : goal.loop-c-preserved
loop-c-preserved c =
    (search rules, turn (open_text (table_of connection_count c.args.table.now) (listed c.args.listing)) c.args.at c.args.out.now c.loop-c.c c.loop-c.place c.loop-c.out c.loop-c.invariant.1 _ refl _ _ c.put_if_open-place.ensures)

pub returns : goal.returns
returns c =
    laid_as _ _ (lines_are (table_of connection_count c.args.table.now) (listed c.args.listing) connection_count (connections_length connection_count c.args.table.now)) _ _ _ _ (end (open_text (table_of connection_count c.args.table.now) (listed c.args.listing)) c.args.at c.args.out.now c.loop-c.c connection_count (omega arith) _ _ c.loop-c.invariant.1)
