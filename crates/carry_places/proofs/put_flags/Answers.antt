-- `carry_places::put_flags` meets its contract: three flags, each at its place. Assumes nothing.
use mathlib.Core.Path.{◌∙◌}
use Rattle.carry_places.specs.Laying.{laid_flags}
use Rattle.carry_places.proofs.put_flags.Goals as goal

pub returns : goal.returns
unfolding laid_flags
returns c = c.put_flag-3.ensures ∙ rw (c.put_flag-2.ensures, c.put_flag.ensures)
