use mathlib.Core.Path.{refl}
use native.Mathlib.Omega.{arith}
use Rattle.prints.proofs.Pieces.{end, start, turn, turn_room}
use Rattle.show_table.specs.Standing.{gone_text}
use Rattle.show_table.proofs.Jobs.{gone}
use borrow.Author.Rules.{rules}
use Rattle.show_table.proofs.put_gone.Goals as goal

pub loop-q-init : goal.loop-q-init
loop-q-init c =
    (omega arith, refl, start (gone c.args.hub.now c.args.word.now c.args.before c.args.after) c.args.at c.args.out.now)

pub put_gone_row-place-requires : goal.put_gone_row-place-requires
unfolding gone_text
put_gone_row-place-requires c =
    (c.requires.0, turn_room (gone c.args.hub.now c.args.word.now c.args.before c.args.after) c.args.at c.args.out.now c.loop-q.q c.loop-q.place c.loop-q.out c.loop-q.invariant.2 _ refl 32 (omega arith) c.requires.1)

pub loop-q-preserved : goal.loop-q-preserved
loop-q-preserved c =
    (search rules, search rules, turn (gone c.args.hub.now c.args.word.now c.args.before c.args.after) c.args.at c.args.out.now c.loop-q.q c.loop-q.place c.loop-q.out c.loop-q.invariant.2 _ refl _ _ c.put_gone_row-place.ensures)

pub returns : goal.returns
unfolding gone_text
returns c =
    end (gone c.args.hub.now c.args.word.now c.args.before c.args.after) c.args.at c.args.out.now c.loop-q.q 32 (omega arith) _ _ c.loop-q.invariant.2
