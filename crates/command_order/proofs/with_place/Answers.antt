use mathlib.Core.Path.{◌≡◌, ◌∙◌, ap₂}
use native.Mathlib.Omega.{arith}
use lib.ListN.{get_or}
use Rattle.server.specs.Sizes.{connection_count}
use Rattle.server.specs.Layout.{table_of}
use Rattle.command.specs.Order.{before, name_at}
use Rattle.command_order.proofs.Hand.{hand_end, hand_laid, hand_past}
use Rattle.command_order.proofs.Names.{before_of_cmp}
use borrow.Author.Rules.{rules}
use Rattle.command_order.proofs.with_place.Goals as goal
use Rattle.command_order.proofs.with_place.Goals.{then-moved, else-moved}

pub loop-i-preserved : goal.loop-i-preserved
loop-i-preserved c =
    let told : c.is_lt-moved.result ≡ before (name_at (table_of connection_count c.args.table.now).functions c.loop-i.hand) (name_at (table_of connection_count c.args.table.now).functions (get_or c.args.places c.loop-i.i 0)) =
    before_of_cmp _ _ _ _ c.cmp.ensures c.is_lt-moved.ensures ∙ ap₂ before c.name_at-name.ensures c.name_at-other.ensures in
    let turn = hand_laid (table_of connection_count c.args.table.now).functions c.args.q c.args.count c.args.places c.loop-i.next c.loop-i.hand c.loop-i.moved c.loop-i.i c.loop-i.invariant.1 (omega arith) c.is_lt-moved.result told (omega arith) (omega arith) c.if-moved.next c.if-moved.hand in
    let past = hand_past (table_of connection_count c.args.table.now).functions c.args.q c.args.count c.args.places c.loop-i.next c.loop-i.hand c.loop-i.moved c.loop-i.i c.loop-i.invariant.1 (omega arith) c.is_lt-moved.result told (omega arith) (omega arith) c.if-moved.next c.if-moved.hand in
    elim c.if-moved.branch [
      | then-moved w ↦ (rw w.next-is (search rules), turn w.if-moved.true w.next-is w.hand-is)
      | else-moved w ↦ (rw w.next-is (search rules), past w.if-moved.false w.next-is w.hand-is)
    ]

pub returns : goal.returns
returns c =
    hand_end (table_of connection_count c.args.table.now).functions c.args.q c.args.count c.args.places c.loop-i.next c.loop-i.hand c.loop-i.moved c.loop-i.i c.loop-i.invariant.1 (omega arith) (omega arith) (omega arith)
