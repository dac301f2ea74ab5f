-- `plan_leave::left_row` meets its contract: the holder returns the job, anybody else only stops listening. Assumes nothing.
use mathlib.Core.Path.{◌∙◌}
use native.Mathlib.Numerals.{add-one}
use Rattle.plan_leave.proofs.left_row.Goals as goal

pub returns-then-row-holder : goal.returns-then-row-holder
returns-then-row-holder c = c.with_holder.ensures ∙ rw (c.deaf-quiet.ensures, ← add-one, c.if-row-holder.true)

pub returns : goal.returns
returns c = c.deaf-quiet.ensures ∙ rw (← add-one, c.if-row-holder.false)
