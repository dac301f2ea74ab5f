-- `plan_events::pre_sleep` meets its contract: the connection as it is, asleep. Assumes nothing.
use mathlib.Core.Path.{◌∙◌}
use Rattle.plan_events.proofs.pre_sleep.Goals as goal

pub returns : goal.returns
returns c = c.done.ensures ∙ rw c.sleeping-x.ensures
