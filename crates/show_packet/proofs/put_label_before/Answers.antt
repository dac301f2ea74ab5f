-- `show_packet::put_label_before` meets its contract: nothing before an only argument, else the label and a space. Assumes nothing.
use Rattle.show_names.specs.Names.{label_of, space}
use Rattle.octets.proofs.Runs.{laid_as, laid_none, laid_then, room_as, room_first, room_then}
use Rattle.show_packet.proofs.Words.{label_none, label_some}
use Rattle.show_packet.proofs.put_label_before.Goals as goal

pub returns-then-count_of-eq1 : goal.returns-then-count_of-eq1
returns-then-count_of-eq1 c = laid_as _ _ (label_none _ _ _ c.count_of.ensures.0 c.if-count_of-eq1.true) _ _ _ _ (laid_none _ _)

pub put_label-place-requires : goal.put_label-place-requires
put_label-place-requires c =
    room_first _ (label_of c.args.shape c.args.i) space _ (room_as _ _ (label_some _ _ _ c.count_of.ensures.0 c.if-count_of-eq1.false) _ _ c.requires)

pub put-requires : goal.put-requires
put-requires c =
    room_then _ (label_of c.args.shape c.args.i) space _ _ _ c.put_label-place.ensures (room_as _ _ (label_some _ _ _ c.count_of.ensures.0 c.if-count_of-eq1.false) _ _ c.requires)

pub returns : goal.returns
returns c =
    laid_as _ _ (label_some _ _ _ c.count_of.ensures.0 c.if-count_of-eq1.false) _ _ _ _ (laid_then _ (label_of c.args.shape c.args.i) space _ _ _ c.put_label-place.ensures _ _ c.put.ensures)
