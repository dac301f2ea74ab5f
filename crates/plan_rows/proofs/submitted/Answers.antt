-- `plan_rows::submitted` meets its contract, by the two kinds of submission. Assumes nothing.
use mathlib.Core.Path.{◌∙◌}
use Rattle.plan_rows.proofs.submitted.Goals as goal

pub returns-then-background : goal.returns-then-background
returns-then-background c = rw c.if-background.true (cc)

pub returns : goal.returns
returns c = c.with_listeners.ensures ∙ rw (c.insert.ensures, c.if-background.false)
