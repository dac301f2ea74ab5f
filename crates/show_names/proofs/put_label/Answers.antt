-- `show_names::put_label` meets its contract: no shape has a sixth argument, and the word of row i is the label. Assumes nothing.
use native.Mathlib.Omega.{arith}
use Rattle.octets.proofs.Runs.{laid_as, laid_none, room_as}
use Rattle.show_names.proofs.Words.{label_width, label_word, no_label}
use Rattle.show_names.proofs.put_label.Goals as goal

pub returns-then-i-ge5 : goal.returns-then-i-ge5
returns-then-i-ge5 c = laid_as _ _ (no_label c.args.shape c.args.i c.if-i-ge5.true) _ _ _ _ (laid_none _ _)

pub slice_bounds-put_word-end : goal.slice_bounds-put_word-end
slice_bounds-put_word-end c = label_width _ _ _ c.labels-rows.ensures (omega arith)

pub put_word-requires : goal.put_word-requires
put_word-requires c = room_as _ _ (label_word _ _ _ c.labels-rows.ensures (omega arith)) _ _ c.requires

pub returns : goal.returns
returns c = laid_as _ _ (label_word _ _ _ c.labels-rows.ensures (omega arith)) _ _ _ _ c.put_word.ensures
