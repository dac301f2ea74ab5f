use mathlib.Core.Path.{◌≡◌, refl, sym, ◌∙◌}
use mathlib.Core.List.{map}
use native.Mathlib.Omega.{arith}
use borrow.Author.Rules.{rules}
use lib.ListN.{length, length-set, length-map, get_or-map}
use Rattle.lists.proofs.Filling.{fill_turn, fill_end}
use Rattle.server.specs.Table.{no_row}
use Rattle.plan.specs.Parts.{left_row}
use Rattle.plan_leave.proofs.left_rows.Goals as goal

pub loop-i-init : goal.loop-i-init
loop-i-init c = (omega arith, search rules, refl)

pub loop-i-preserved : goal.loop-i-preserved
loop-i-preserved c =
    let n = length-map c.args.rows (left_row c.args.c) in
    let m : length c.args.rows ≡ 32 = search rules in
    let h : length c.loop-i.next ≡ 32 = c.loop-i.invariant.1 in
    (omega arith, length-set c.loop-i.next c.loop-i.i _ ∙ h, fill_turn (map (left_row c.args.c) c.args.rows) c.loop-i.next c.loop-i.i c.loop-i.invariant.2 (left_row c.args.c no_row) _ (omega arith) (omega arith) (c.left_row.ensures ∙ sym (get_or-map (left_row c.args.c) c.args.rows c.loop-i.i no_row)))

pub returns : goal.returns
returns c =
    let n = length-map c.args.rows (left_row c.args.c) in
    let m : length c.args.rows ≡ 32 = search rules in
    let h : length c.loop-i.next ≡ 32 = c.loop-i.invariant.1 in
    fill_end (map (left_row c.args.c) c.args.rows) c.loop-i.next c.loop-i.i c.loop-i.invariant.2 (omega arith) (omega arith)
