use mathlib.Core.Path.{refl}
use native.Mathlib.Omega.{arith}
use lib.ListN.{length}
use Rattle.octets.proofs.Runs.{laid_as, room_as}
use Rattle.server.specs.Sizes.{connection_count}
use Rattle.server.specs.Layout.{table_of}
use Rattle.prints.proofs.Pieces.{end, start, turn, turn_room}
use Rattle.command_workers.proofs.Lines.{name_for, names_are}
use borrow.Author.Rules.{rules}
use Rattle.command_workers.proofs.put_names.Goals as goal

pub loop-q-init : goal.loop-q-init
loop-q-init c =
    (refl, start (name_for (table_of connection_count c.args.table.now) c.args.c c.known-q-items.result.now) c.args.at c.args.out.now)

pub put_name-place-requires : goal.put_name-place-requires
put_name-place-requires c =
    (c.requires.0, c.requires.2, turn_room (name_for (table_of connection_count c.args.table.now) c.args.c c.known-q-items.result.now) c.args.at c.args.out.now c.loop-q.q-index c.loop-q.place c.loop-q.out c.loop-q.invariant.1 _ refl (length c.known-q-items.result.now) (omega arith) (room_as _ _ (names_are (table_of connection_count c.args.table.now) c.args.c _ _ c.known-q-items.ensures) _ _ c.requires.3))

pub loop-q-preserved : goal.loop-q-preserved
loop-q-preserved c =
    (search rules, turn (name_for (table_of connection_count c.args.table.now) c.args.c c.known-q-items.result.now) c.args.at c.args.out.now c.loop-q.q-index c.loop-q.place c.loop-q.out c.loop-q.invariant.1 _ refl _ _ c.put_name-place.ensures)

pub returns : goal.returns
returns c =
    laid_as _ _ (names_are (table_of connection_count c.args.table.now) c.args.c _ _ c.known-q-items.ensures) _ _ _ _ (end (name_for (table_of connection_count c.args.table.now) c.args.c c.known-q-items.result.now) c.args.at c.args.out.now c.loop-q.q-index (length c.known-q-items.result.now) (omega arith) _ _ c.loop-q.invariant.1)
