-- `carry_places::put_zeros` meets its contract: the test tells whether the connection holds the job. Assumes nothing.
use mathlib.Core.Path.{◌∙◌}
use native.Mathlib.Numerals.{add-one}
use Rattle.carry_places.specs.Laying.{laid_zeros}
use Rattle.carry_places.proofs.put_zeros.Goals as goal

pub returns-then-row-holder : goal.returns-then-row-holder
unfolding laid_zeros
returns-then-row-holder c = c.put_numbers.ensures ∙ rw (← add-one c.args.c, c.if-row-holder.true)

pub returns-else-row-holder : goal.returns-else-row-holder
unfolding laid_zeros
returns-else-row-holder c = rw (← add-one, c.if-row-holder.false)
