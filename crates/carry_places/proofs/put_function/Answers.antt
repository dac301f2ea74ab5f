-- `carry_places::put_function` meets its contract: a set, or a place at zero. Assumes nothing.
use mathlib.Core.Path.{◌∙◌}
use Rattle.carry_places.specs.Laying.{laid_function}
use Rattle.carry_places.proofs.put_function.Goals as goal

pub returns-then-wanted : goal.returns-then-wanted
unfolding laid_function
returns-then-wanted c = c.put4.ensures ∙ rw c.if-wanted.true

pub returns-else-wanted : goal.returns-else-wanted
unfolding laid_function
returns-else-wanted c = c.put_forgotten.ensures ∙ rw c.if-wanted.false
