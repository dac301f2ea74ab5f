-- `plan_jobs::submit` meets its contract, by the cases of the job that it joins. Assumes nothing.
use mathlib.Core.Path.{◌∙◌}
use Rattle.plan.specs.Plans.{plan_submit}
use Rattle.plan_jobs.proofs.submit.Goals as goal

pub returns-in-Some : goal.returns-in-Some
unfolding plan_submit
returns-in-Some c = c.join.ensures ∙ rw c.in-Some.is

pub returns-in-None : goal.returns-in-None
unfolding plan_submit
returns-in-None c = c.submit_new.ensures ∙ rw c.in-None.is
