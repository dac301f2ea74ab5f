-- `plan_leave::reset` meets its contract: each set without the connection. Assumes nothing.
use mathlib.Core.Path.{◌∙◌}
use Rattle.plan_leave.proofs.reset.Goals as goal

pub returns : goal.returns
returns c = c.with_able.ensures ∙ rw c.unable_all.ensures
