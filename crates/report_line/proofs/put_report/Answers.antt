-- `report_line::put_report` meets its contract: nothing at all, or the answer to the command's line. Assumes nothing.
use native.Mathlib.Omega.{arith}
use Rattle.report_line.proofs.Answers.{answer_needs, answer_said, unfit_said}
use Rattle.report_line.proofs.Commands.{line_counted}
use Rattle.report_line.proofs.put_report.Goals as goal

pub returns-then-is_unfit : goal.returns-then-is_unfit
returns-then-is_unfit c = unfit_said _ _ _ c.is_unfit.ensures c.if-is_unfit.true _

pub slice_bounds-put_text-end : goal.slice_bounds-put_text-end
slice_bounds-put_text-end c = line_counted _ _ (omega arith) _ _ c.put_line-end.ensures

pub put_text-requires : goal.put_text-requires
put_text-requires c = answer_needs _ _ _ c.is_unfit.ensures c.if-is_unfit.false _

pub returns : goal.returns
returns c = answer_said _ _ _ c.is_unfit.ensures c.if-is_unfit.false _ _ (omega arith) _ _ c.put_line-end.ensures _ _ c.put_text.ensures
