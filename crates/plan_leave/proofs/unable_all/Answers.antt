use mathlib.Core.Path.{◌≡◌, refl, sym, ◌∙◌}
use mathlib.Core.List.{map}
use native.Mathlib.Omega.{arith}
use borrow.Author.Rules.{rules}
use lib.ListN.{length, length-set, length-map, get_or-map}
use Rattle.lists.proofs.Filling.{fill_turn, fill_end}
use Rattle.sets.specs.Sets.{remove}
use Rattle.plan_leave.proofs.unable_all.Goals as goal

pub loop-i-init : goal.loop-i-init
loop-i-init c = (omega arith, search rules, refl)

pub loop-i-preserved : goal.loop-i-preserved
loop-i-preserved c =
    let n = length-map c.args.able (λ s. remove s c.args.c) in
    let m : length c.args.able ≡ 16 = search rules in
    let h : length c.loop-i.next ≡ 16 = c.loop-i.invariant.1 in
    (omega arith, length-set c.loop-i.next c.loop-i.i _ ∙ h, fill_turn (map (λ s. remove s c.args.c) c.args.able) c.loop-i.next c.loop-i.i c.loop-i.invariant.2 (remove 0 c.args.c) _ (omega arith) (omega arith) (c.remove.ensures ∙ sym (get_or-map (λ s. remove s c.args.c) c.args.able c.loop-i.i 0)))

pub returns : goal.returns
returns c =
    let n = length-map c.args.able (λ s. remove s c.args.c) in
    let m : length c.args.able ≡ 16 = search rules in
    let h : length c.loop-i.next ≡ 16 = c.loop-i.invariant.1 in
    fill_end (map (λ s. remove s c.args.c) c.args.able) c.loop-i.next c.loop-i.i c.loop-i.invariant.2 (omega arith) (omega arith)
