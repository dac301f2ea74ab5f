-- `plan_jobs::cant_do` meets its contract, by the cases of the place. Assumes nothing.
use mathlib.Core.Path.{◌∙◌}
use Rattle.plan.specs.Plans.{plan_cant_do}
use Rattle.plan_jobs.proofs.cant_do.Goals as goal

pub returns-in-None : goal.returns-in-None
unfolding plan_cant_do
returns-in-None c = c.done.ensures ∙ rw c.in-None.is

pub returns-in-Some : goal.returns-in-Some
unfolding plan_cant_do
returns-in-Some c = c.done-in-Some.ensures ∙ rw (c.remove-s.ensures, c.able_at.ensures, c.in-Some.is)
