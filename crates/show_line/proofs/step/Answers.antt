-- `show_line::step` meets its contract: a text that is too short, or what is said of what answering the frame left. Assumes nothing.
use mathlib.Core.Path.{sym}
use lib.Seq.{length-take-le}
use Rattle.capture.proofs.Telling.{sent_few, sent_inside, sent_packed}
use Rattle.show_line.proofs.Lines.{short_text, table_left_lem, line_shown}
use Rattle.show_line.proofs.step.Goals as goal

pub returns-then-text-lt-TEXT_SIZE : goal.returns-then-text-lt-TEXT_SIZE
returns-then-text-lt-TEXT_SIZE c = short_text _ _ _ _ _ _ c.if-text-lt-TEXT_SIZE.true

pub slice_bounds-put_line-end : goal.slice_bounds-put_line-end
slice_bounds-put_line-end c = sent_inside _ _ _ _ _ _ _ _ _ c.answer_frame-answer.ensures

pub slice_bounds-put_line-end-2 : goal.slice_bounds-put_line-end-2
slice_bounds-put_line-end-2 c = sym (length-take-le _ _ (sent_inside _ _ _ _ _ _ _ _ _ c.answer_frame-answer.ensures))

pub put_line-requires : goal.put_line-requires
put_line-requires c =
    (c.read_frame-frame.ensures.1, sent_packed _ _ _ _ _ _ _ _ _ c.answer_frame-answer.ensures, table_left_lem _ _ _ _ _ _ _ _ _ c.answer_frame-answer.ensures, sent_few _ _ _ _ _ _ _ _ _ c.answer_frame-answer.ensures, c.if-text-lt-TEXT_SIZE.false)

pub returns : goal.returns
returns c = line_shown _ _ _ _ _ _ _ _ _ c.answer_frame-answer.ensures _ _ _ c.if-text-lt-TEXT_SIZE.false c.read_frame-frame.ensures.0 _ c.rows_in-before.ensures _ _ c.put_line.ensures
