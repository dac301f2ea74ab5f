-- `plan_events::open` meets its contract, from what its callees ensure. Assumes nothing.
use mathlib.Core.Path.{◌∙◌}
use Rattle.plan_events.proofs.open.Goals as goal

pub returns : goal.returns
returns c = c.done.ensures ∙ rw c.just_opened-x.ensures
