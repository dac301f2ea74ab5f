-- `plan_events::status` meets its contract, by the cases of the place. Assumes nothing.
use mathlib.Core.Path.{◌∙◌}
use Rattle.plan_events.proofs.status.Goals as goal

pub returns-in-None : goal.returns-in-None
returns-in-None c = c.done.ensures ∙ rw c.in-None.is

pub returns-in-Some : goal.returns-in-Some
returns-in-Some c = c.done-in-Some.ensures ∙ rw c.in-Some.is
