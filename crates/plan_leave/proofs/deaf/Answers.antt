-- `plan_leave::deaf` meets its contract, from what its callees ensure. Assumes nothing.
use mathlib.Core.Path.{◌∙◌}
use Rattle.plan_leave.proofs.deaf.Goals as goal

pub returns : goal.returns
returns c = c.with_listeners.ensures ∙ rw c.remove.ensures
