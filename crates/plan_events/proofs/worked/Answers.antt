-- `plan_events::worked` meets its contract, by the cases of the place and of what is said. Assumes nothing.
use mathlib.Core.Path.{◌∙◌}
use Rattle.plan.specs.Plans.{plan_work}
use Rattle.plan_events.proofs.worked.Goals as goal

pub returns-in-None : goal.returns-in-None
unfolding plan_work
returns-in-None c = c.refused.ensures ∙ rw c.in-None.is

pub returns-in-Tells : goal.returns-in-Tells
unfolding plan_work
returns-in-Tells c = c.done.ensures ∙ rw (c.row_at-row.ensures, c.in-Some.is, c.in-Tells.is)

pub returns-in-Reports : goal.returns-in-Reports
unfolding plan_work
returns-in-Reports c = c.done-in-Reports.ensures ∙ rw (c.row_at-row.ensures, c.in-Some.is, c.in-Reports.is)

pub returns-in-Ends : goal.returns-in-Ends
unfolding plan_work
returns-in-Ends c = c.done-in-Ends.ensures ∙ rw (c.row_at-row.ensures, c.in-Some.is, c.in-Ends.is)

pub returns-in-Throws : goal.returns-in-Throws
unfolding plan_work
returns-in-Throws c =
    c.done-in-Throws.ensures
    ∙ rw (c.heard.ensures, c.row_at-row.ensures, c.in-Some.is, c.in-Throws.is)
