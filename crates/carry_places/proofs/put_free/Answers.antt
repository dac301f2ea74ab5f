-- `carry_places::put_free` meets its contract: a free row, and three texts at zero. Assumes nothing.
use mathlib.Core.Path.{◌∙◌}
use Rattle.carry_places.specs.Laying.{laid_free}
use Rattle.carry_places.proofs.put_free.Goals as goal

pub returns : goal.returns
unfolding laid_free
returns c = c.put_numbers.ensures ∙ rw (c.put_text.ensures, c.put_row.ensures, c.no_row.ensures)
