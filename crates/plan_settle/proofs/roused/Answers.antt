-- `plan_settle::roused` meets its contract. Assumes nothing.
use mathlib.Core.Path.{◌∙◌}
use Rattle.plan_settle.proofs.Turns.{roused_row}
use Rattle.plan_settle.proofs.roused.Goals as goal

pub returns : goal.returns
returns c = c.with_asleep.ensures ∙ roused_row c.args.x c.args.wakes
