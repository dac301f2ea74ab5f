-- `carry_places::put_job` meets its contract: the test tells a free row. Assumes nothing.
use mathlib.Core.Path.{◌∙◌}
use borrow.Author.Tests.{eq-eqb, ne_eqb}
use Rattle.carry_places.specs.Laying.{laid_job}
use Rattle.carry_places.proofs.put_job.Goals as goal

pub returns-then-row-eq0 : goal.returns-then-row-eq0
unfolding laid_job
returns-then-row-eq0 c = c.put_free.ensures ∙ rw (eq-eqb _ _ c.if-row-eq0.true)

pub returns-else-row-eq0 : goal.returns-else-row-eq0
unfolding laid_job
returns-else-row-eq0 c = c.put_row.ensures ∙ rw (ne_eqb _ _ c.if-row-eq0.false)
