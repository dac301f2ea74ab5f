use mathlib.Core.Path.{refl}
use native.Mathlib.Omega.{arith}
use Rattle.prints.proofs.Pieces.{end, start, turn, turn_room}
use Rattle.show_table.specs.Standing.{jobs_text}
use Rattle.show_table.proofs.Jobs.{unfinished}
use borrow.Author.Rules.{rules}
use Rattle.show_table.proofs.put_jobs.Goals as goal

pub loop-p-init : goal.loop-p-init
loop-p-init c =
    (omega arith, refl, start (unfinished c.args.hub.now c.args.rows) c.args.at c.args.out.now)

pub put_row-place-requires : goal.put_row-place-requires
unfolding jobs_text
put_row-place-requires c =
    (c.requires.0, turn_room (unfinished c.args.hub.now c.args.rows) c.args.at c.args.out.now c.loop-p.p c.loop-p.place c.loop-p.out c.loop-p.invariant.2 _ refl 32 (omega arith) c.requires.1)

pub loop-p-preserved : goal.loop-p-preserved
loop-p-preserved c =
    (search rules, search rules, turn (unfinished c.args.hub.now c.args.rows) c.args.at c.args.out.now c.loop-p.p c.loop-p.place c.loop-p.out c.loop-p.invariant.2 _ refl _ _ c.put_row-place.ensures)

pub returns : goal.returns
unfolding jobs_text
returns c =
    end (unfinished c.args.hub.now c.args.rows) c.args.at c.args.out.now c.loop-p.p 32 (omega arith) _ _ c.loop-p.invariant.2
