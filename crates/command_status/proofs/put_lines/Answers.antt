use mathlib.Core.Path.{refl}
use native.Mathlib.Omega.{arith}
use lib.ListN.{length}
use Rattle.octets.proofs.Runs.{laid_as, room_as}
use Rattle.server.specs.Sizes.{connection_count}
use Rattle.server.specs.Layout.{table_of}
use Rattle.prints.proofs.Pieces.{end, start, turn, turn_room}
use Rattle.command_status.proofs.Lines.{line_at, lines_are}
use borrow.Author.Rules.{rules}
use Rattle.command_status.proofs.put_lines.Goals as goal

pub loop-q-init : goal.loop-q-init
loop-q-init c =
    (refl, start (line_at (table_of connection_count c.args.table.now) c.known-q-items.result.now) c.args.at c.args.out.now)

pub put_line-place-requires : goal.put_line-place-requires
put_line-place-requires c =
    (c.requires.0, c.requires.1, turn_room (line_at (table_of connection_count c.args.table.now) c.known-q-items.result.now) c.args.at c.args.out.now c.loop-q.q-index c.loop-q.place c.loop-q.out c.loop-q.invariant.1 _ refl (length c.known-q-items.result.now) (omega arith) (room_as _ _ (lines_are (table_of connection_count c.args.table.now) _ _ c.known-q-items.ensures) _ _ c.requires.3))

pub loop-q-preserved : goal.loop-q-preserved
loop-q-preserved c =
    (search rules, turn (line_at (table_of connection_count c.args.table.now) c.known-q-items.result.now) c.args.at c.args.out.now c.loop-q.q-index c.loop-q.place c.loop-q.out c.loop-q.invariant.1 _ refl _ _ c.put_line-place.ensures)

pub returns : goal.returns
returns c =
    laid_as _ _ (lines_are (table_of connection_count c.args.table.now) _ _ c.known-q-items.ensures) _ _ _ _ (end (line_at (table_of connection_count c.args.table.now) c.known-q-items.result.now) c.args.at c.args.out.now c.loop-q.q-index (length c.known-q-items.result.now) (omega arith) _ _ c.loop-q.invariant.1)
