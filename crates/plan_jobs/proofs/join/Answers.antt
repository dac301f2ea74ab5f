-- `plan_jobs::join` meets its contract: the row at the place, with a submitter more. Assumes nothing.
use mathlib.Core.Path.{◌∙◌}
use Rattle.plan.specs.Plans.{plan_join}
use Rattle.plan_jobs.proofs.join.Goals as goal

pub returns : goal.returns
unfolding plan_join
returns c = c.done.ensures ∙ rw (c.submitted-joined.ensures, c.row_at-row.ensures)
