-- `replay_line::step` meets its contract: a text that is too short, or the lines of what answering the frame left. Assumes nothing.
use Rattle.replay_line.proofs.Replies.{short_text, reply_packed, replied}
use Rattle.replay_line.proofs.step.Goals as goal

pub returns-then-text-lt-TEXT_SIZE : goal.returns-then-text-lt-TEXT_SIZE
returns-then-text-lt-TEXT_SIZE c = short_text _ _ _ _ _ c.if-text-lt-TEXT_SIZE.true

pub put_answer-requires : goal.put_answer-requires
put_answer-requires c = reply_packed _ _ _ _ _ _ _ _ _ c.answer_frame-answer.ensures _ c.if-text-lt-TEXT_SIZE.false

pub returns : goal.returns
returns c = replied _ _ _ _ _ _ _ _ _ c.answer_frame-answer.ensures _ _ c.if-text-lt-TEXT_SIZE.false c.read_frame-frame.ensures.0 _ _ c.put_answer.ensures
