-- `plan_jobs::can_do` meets its contract, by the cases of the place. Assumes nothing.
use mathlib.Core.Path.{◌∙◌}
use Rattle.plan.specs.Plans.{plan_can_do}
use Rattle.plan_jobs.proofs.can_do.Goals as goal

pub returns-in-None : goal.returns-in-None
unfolding plan_can_do
returns-in-None c = c.refused.ensures ∙ rw c.in-None.is

pub returns-in-Some : goal.returns-in-Some
unfolding plan_can_do
returns-in-Some c = c.done.ensures ∙ rw (c.insert-s.ensures, c.able_at.ensures, c.in-Some.is)
