use mathlib.Core.Path.{◌≡◌, refl, sym, ◌∙◌}
use native.Mathlib.Omega.{arith}
use borrow.Author.Rules.{rules}
use lib.ListN.{length, length-set}
use Rattle.server.specs.Sizes.{connection_count}
use Rattle.server.specs.Table.{closed}
use Rattle.plan.specs.Busy.{woken_by}
use Rattle.lists.proofs.Filling.{fill_turn, fill_end}
use Rattle.plan_settle.proofs.Turns.{length_woken, woken_at}
use Rattle.plan_settle.proofs.woken.Goals as goal

pub loop-i-init : goal.loop-i-init
loop-i-init c = (omega arith, search rules, refl)

pub loop-i-preserved : goal.loop-i-preserved
loop-i-preserved c =
    let n = length_woken c.args.busy c.args.connections in
    let h : length c.loop-i.next ≡ connection_count = c.loop-i.invariant.1 in
    (omega arith, length-set c.loop-i.next c.loop-i.i _ ∙ h, fill_turn (woken_by c.args.busy c.args.connections) c.loop-i.next c.loop-i.i c.loop-i.invariant.2 closed _ (omega arith) (omega arith) (c.roused.ensures ∙ rw c.has.ensures (sym (woken_at c.args.busy c.args.connections c.loop-i.i))))

pub returns : goal.returns
returns c =
    let n = length_woken c.args.busy c.args.connections in
    let h : length c.loop-i.next ≡ connection_count = c.loop-i.invariant.1 in
    fill_end (woken_by c.args.busy c.args.connections) c.loop-i.next c.loop-i.i c.loop-i.invariant.2 (omega arith) (omega arith)
