-- `plan_jobs::submit_new` meets its contract, by the cases of the two places. Assumes nothing.
use mathlib.Core.Path.{ap, ◌∙◌}
use Rattle.plan.specs.Plans.{plan_new}
use Rattle.plan_jobs.proofs.submit_new.Goals as goal

pub accept-requires : goal.accept-requires
accept-requires c =
    (c.requires.0, c.requires.1, c.requires.2 _ c.in-Some.is)

pub returns-in-None : goal.returns-in-None
unfolding plan_new
returns-in-None c = c.refused.ensures ∙ rw c.in-None.is

pub returns-in-None-free : goal.returns-in-None-free
unfolding plan_new
returns-in-None-free c = c.refused-in-None-free.ensures ∙ rw (c.in-Some.is, c.in-None-free.is)

pub returns-in-Some-free : goal.returns-in-Some-free
returns-in-Some-free c = c.accept.ensures ∙ rw (c.in-Some.is, c.in-Some-free.is)
