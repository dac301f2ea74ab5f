-- `show_packet::put_argument` meets its contract: a space, the label, the value. Assumes nothing.
use Prim.Native.Nat.{ℕ}
use mathlib.Core.Path.{ap}
use mathlib.Core.List.{◌++◌}
use lib.ListN.{get_or}
use Rattle.octets.specs.Bytes.{Bytes}
use Rattle.packet.specs.declared.Rule.{Rule}
use Rattle.packet.specs.declared.Rule.TheVariants.{Absent}
use Rattle.packet.specs.declared.Shape.{Shape}
use Rattle.packet.specs.Layout.{rules_of}
use Rattle.show_packet.specs.Lines.{argument_text, label_before, value_of}
use Rattle.show_names.specs.Names.{space}
use Rattle.octets.proofs.Runs.{laid_as, laid_third, room_as, room_first, room_second, room_third}
use Rattle.show_packet.proofs.put_argument.Goals as goal

abbrev value : Shape → ℕ → Bytes → Bytes
value shape i a = value_of (get_or (rules_of shape) i Absent) a

pub put-label-requires : goal.put-label-requires
unfolding argument_text
put-label-requires c =
    room_first _ space (label_before c.args.shape c.args.i ++ (value c.args.shape c.args.i c.args.a.now)) _ c.requires.1

pub put_label_before-value-requires : goal.put_label_before-value-requires
unfolding argument_text
put_label_before-value-requires c =
    room_second _ space (label_before c.args.shape c.args.i) (value c.args.shape c.args.i c.args.a.now) _ _ _ c.put-label.ensures c.requires.1

pub put_value-requires : goal.put_value-requires
unfolding argument_text
put_value-requires c =
    (c.requires.0, room_as _ (value c.args.shape c.args.i c.args.a.now) (ap (λ (r : Rule). value_of r c.args.a.now) c.rule_of.ensures) _ _ (room_third _ space (label_before c.args.shape c.args.i) (value c.args.shape c.args.i c.args.a.now) _ _ _ c.put-label.ensures _ _ c.put_label_before-value.ensures c.requires.1))

pub returns : goal.returns
unfolding argument_text
returns c =
    laid_third _ space (label_before c.args.shape c.args.i) (value c.args.shape c.args.i c.args.a.now) _ _ _ c.put-label.ensures _ _ c.put_label_before-value.ensures _ _ (laid_as _ (value c.args.shape c.args.i c.args.a.now) (ap (λ (r : Rule). value_of r c.args.a.now) c.rule_of.ensures) _ _ _ _ c.put_value.ensures)
