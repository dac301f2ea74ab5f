use mathlib.Core.Path.{◌≡◌, refl, sym, ap, ◌∙◌}
use mathlib.Core.Bool.{Bool, false, not, ◌||◌}
use native.Mathlib.Omega.{arith}
use borrow.Author.Rules.{rules}
use lib.ListN.{length, get_or, length-set}
use Rattle.sets.specs.Sets.{is_empty}
use Rattle.plan.specs.Busy.{marked_by}
use Rattle.lists.proofs.Filling.{fill_turn, fill_end}
use Rattle.plan_settle.proofs.Turns.{length_marked, marked_at}
use Rattle.plan_settle.proofs.Sleepers.{marked_named}
use Rattle.plan_settle.proofs.wanted.Goals as goal

pub loop-i-init : goal.loop-i-init
loop-i-init c = (omega arith, search rules, refl)

pub loop-i-preserved : goal.loop-i-preserved
loop-i-preserved c =
    let n = length_marked c.args.able c.named-s.result in
    let h : length c.loop-i.marks ≡ 16 = c.loop-i.invariant.1 in
    let v = ap (λ (b : Bool). not (is_empty (get_or c.args.able c.loop-i.i 0)) || b) c.has.ensures in (
      omega arith,
      length-set c.loop-i.marks c.loop-i.i _ ∙ h,
      fill_turn (marked_by c.args.able c.named-s.result) c.loop-i.marks c.loop-i.i c.loop-i.invariant.2 false _ (omega arith) (omega arith) (v ∙ sym (marked_at c.args.able c.named-s.result c.loop-i.i (omega arith))),
    )

pub returns : goal.returns
returns c =
    let n = length_marked c.args.able c.named-s.result in
    let h : length c.loop-i.marks ≡ 16 = c.loop-i.invariant.1 in
    fill_end (marked_by c.args.able c.named-s.result) c.loop-i.marks c.loop-i.i c.loop-i.invariant.2 (omega arith) (omega arith)
    ∙ ap (marked_by c.args.able) c.named-s.ensures ∙ marked_named c.args.able c.args.rows
