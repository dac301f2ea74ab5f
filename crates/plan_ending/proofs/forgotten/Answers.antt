-- `plan_ending::forgotten` meets its contract: nothing where somebody is able or a job is left. Assumes nothing.
use mathlib.Core.Path.{sym, ◌∙◌}
use borrow.Author.Tests.{ne_eqb}
use Rattle.plan_ending.proofs.forgotten.Goals as goal

pub returns-then-able-ne0 : goal.returns-then-able-ne0
returns-then-able-ne0 c = rw (ne_eqb _ 0 c.if-able-ne0.true)

pub returns-then-some_name : goal.returns-then-some_name
returns-then-some_name c = rw (c.if-able-ne0.false, sym c.some_name.ensures ∙ c.if-some_name.true)

pub returns : goal.returns
returns c = rw (c.if-able-ne0.false, sym c.some_name.ensures ∙ c.if-some_name.false)
