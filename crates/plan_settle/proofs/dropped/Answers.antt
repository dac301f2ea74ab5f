use mathlib.Core.Path.{◌≡◌, refl, sym, ◌∙◌}
use native.Mathlib.Omega.{arith}
use borrow.Author.Rules.{rules}
use lib.ListN.{length, length-set}
use Rattle.server.specs.Table.{no_row}
use Rattle.plan.specs.Settling.{dropped_rows}
use Rattle.lists.proofs.Filling.{fill_turn, fill_end}
use Rattle.plan_settle.proofs.Turns.{length_dropped, dropped_at}
use Rattle.plan_settle.proofs.dropped.Goals as goal

pub loop-i-init : goal.loop-i-init
loop-i-init c = (omega arith, search rules, refl)

pub loop-i-preserved : goal.loop-i-preserved
loop-i-preserved c =
    let n = length_dropped c.args.rows in
    let h : length c.loop-i.kept ≡ 32 = c.loop-i.invariant.1 in
    (omega arith, length-set c.loop-i.kept c.loop-i.i _ ∙ h, fill_turn (dropped_rows c.args.rows) c.loop-i.kept c.loop-i.i c.loop-i.invariant.2 no_row _ (omega arith) (omega arith) (c.unless_lost.ensures ∙ sym (dropped_at c.args.rows c.loop-i.i)))

pub returns : goal.returns
returns c =
    let n = length_dropped c.args.rows in
    let h : length c.loop-i.kept ≡ 32 = c.loop-i.invariant.1 in
    fill_end (dropped_rows c.args.rows) c.loop-i.kept c.loop-i.i c.loop-i.invariant.2 (omega arith) (omega arith)
