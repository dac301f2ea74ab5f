-- `plan_events::kept` meets its contract, by the two cases. Assumes nothing.
use mathlib.Core.Path.{◌∙◌}
use Rattle.plan_events.proofs.kept.Goals as goal

pub returns : goal.returns
returns c = c.remove.ensures ∙ rw c.if-stays.false
