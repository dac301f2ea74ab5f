-- `carry_places::put_forgotten` meets its contract: the set, and then the name. Assumes nothing.
use mathlib.Core.Path.{◌∙◌}
use Rattle.carry_places.specs.Laying.{laid_forgotten}
use Rattle.carry_places.proofs.put_forgotten.Goals as goal

pub returns : goal.returns
unfolding laid_forgotten
returns c = c.put_text.ensures ∙ rw c.put4.ensures
