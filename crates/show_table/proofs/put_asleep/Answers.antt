use mathlib.Core.Path.{refl}
use native.Mathlib.Omega.{arith}
use Rattle.prints.proofs.Pieces.{end, start, turn, turn_room}
use Rattle.show_table.specs.Standing.{each}
use Rattle.show_table.proofs.Connections.{shown, sleeps}
use borrow.Author.Rules.{rules}
use Rattle.show_table.proofs.put_asleep.Goals as goal

pub loop-c-init : goal.loop-c-init
loop-c-init c =
    (omega arith, refl, start (shown (sleeps c.args.connections)) c.args.at c.args.out.now)

pub put_one-place-requires : goal.put_one-place-requires
unfolding each
put_one-place-requires c =
    (omega arith, turn_room (shown (sleeps c.args.connections)) c.args.at c.args.out.now c.loop-c.c c.loop-c.place c.loop-c.out c.loop-c.invariant.2 _ refl 16 (omega arith) c.requires)

pub loop-c-preserved : goal.loop-c-preserved
loop-c-preserved c =
    (search rules, search rules, turn (shown (sleeps c.args.connections)) c.args.at c.args.out.now c.loop-c.c c.loop-c.place c.loop-c.out c.loop-c.invariant.2 _ refl _ _ c.put_one-place.ensures)

pub returns : goal.returns
unfolding each
returns c =
    end (shown (sleeps c.args.connections)) c.args.at c.args.out.now c.loop-c.c 16 (omega arith) _ _ c.loop-c.invariant.2
