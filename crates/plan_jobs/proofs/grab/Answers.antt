-- `plan_jobs::grab` meets its contract, by the cases of the place. Assumes nothing.
use mathlib.Core.Path.{◌∙◌}
use native.Mathlib.Numerals.{add-one}
use Rattle.plan.specs.Plans.{plan_grab}
use Rattle.plan_jobs.proofs.grab.Goals as goal

pub returns-in-None : goal.returns-in-None
unfolding plan_grab
returns-in-None c = c.done.ensures ∙ rw (c.sleeping-awake.ensures, c.in-None.is)

pub returns-in-Some : goal.returns-in-Some
unfolding plan_grab
returns-in-Some c =
    c.done-in-Some.ensures
    ∙ rw (c.with_holder-held.ensures, c.row_at.ensures, c.sleeping-awake.ensures, c.in-Some.is, add-one)
