-- `carry_places::put_row` meets its contract: seven numbers, each at its place. Assumes nothing.
use mathlib.Core.Path.{◌∙◌}
use Rattle.carry_places.specs.Laying.{laid_row}
use Rattle.carry_places.proofs.put_row.Goals as goal

pub returns : goal.returns
unfolding laid_row
returns c = c.put_byte-2.ensures ∙ rw (c.put_flag.ensures, c.put_byte.ensures, c.put_twos.ensures, c.put_fours.ensures)
