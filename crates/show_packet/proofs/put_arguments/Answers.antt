use Prim.Native.Nat.{◌<◌, ◌≤◌}
use mathlib.Core.Path.{◌≡◌, ap, refl}
use native.Mathlib.Omega.{arith}
use lib.ListN.{length}
use Rattle.packet.specs.Layout.{rules_of}
use Rattle.prints.proofs.Pieces.{end, start, turn, turn_room}
use Rattle.show_packet.specs.Lines.{argument_text, argument_texts}
use Rattle.show_packet.proofs.Arguments.{argument_short}
use borrow.Author.Rules.{rules}
use Rattle.show_packet.proofs.put_arguments.Invariants.{piece}
use Rattle.show_packet.proofs.put_arguments.Goals as goal

pub loop-i-init : goal.loop-i-init
loop-i-init c =
    (omega arith, refl, start (piece c.args.shape c.args.packet.now c.args.ends) c.args.at c.args.out.now)

pub put_argument-place-requires : goal.put_argument-place-requires
unfolding argument_texts
put_argument-place-requires c =
    let n : length c.argument-a.result.now ≤ length c.args.packet.now = rw c.argument-a.ensures (argument_short c.args.packet.now c.args.ends c.loop-i.i) in
    let h : c.loop-i.i < length (rules_of c.args.shape) = omega (arith, c.count_of-count.ensures.0) in
    (omega (arith, n, c.requires.0), turn_room (piece c.args.shape c.args.packet.now c.args.ends) c.args.at c.args.out.now c.loop-i.i c.loop-i.place c.loop-i.out c.loop-i.invariant.2 _ (ap (argument_text c.args.shape c.loop-i.i) c.argument-a.ensures) _ h c.requires.1)

pub loop-i-preserved : goal.loop-i-preserved
loop-i-preserved c =
    (search rules, search rules, turn (piece c.args.shape c.args.packet.now c.args.ends) c.args.at c.args.out.now c.loop-i.i c.loop-i.place c.loop-i.out c.loop-i.invariant.2 _ (ap (argument_text c.args.shape c.loop-i.i) c.argument-a.ensures) _ _ c.put_argument-place.ensures)

pub returns : goal.returns
unfolding argument_texts
returns c =
    let q : c.loop-i.i ≡ length (rules_of c.args.shape) = omega (arith, c.count_of-count.ensures.0) in
    end (piece c.args.shape c.args.packet.now c.args.ends) c.args.at c.args.out.now _ _ q _ _ c.loop-i.invariant.2
