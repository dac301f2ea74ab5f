-- `plan_jobs::sleeping` meets its contract: the connection as it is, asleep or awake. Assumes nothing.
use mathlib.Core.Path.{◌∙◌}
use Rattle.plan_jobs.proofs.sleeping.Goals as goal

pub returns : goal.returns
returns c = c.with_asleep.ensures ∙ rw c.connection_at-x.ensures
