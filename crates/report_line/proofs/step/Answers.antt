-- `report_line::step` meets its contract: it leaves what answering the line's frame left. Assumes nothing.
use Rattle.report_line.proofs.Answers.{line_kept}
use Rattle.report_line.proofs.step.Goals as goal

pub returns : goal.returns
returns c = line_kept _ _ _ _ _ c.read_frame-frame.ensures.0 _ _ _ _ _ c.answer_frame-dropped.ensures
