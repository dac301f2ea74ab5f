-- `carry_places::finish` meets its contract: the settled numbers, written place after place. Assumes nothing.
use mathlib.Core.Path.{◌∙◌}
use Rattle.carry_places.specs.Written.{written}
use Rattle.carry_places.proofs.finish.Goals as goal

pub returns : goal.returns
unfolding written
returns c =
    c.put_connections.ensures
    ∙ rw (
      c.put_functions.ensures,
      c.wanted-wanted.ensures,
      c.put_jobs.ensures,
      c.put4.ensures,
      c.settled-u.ensures,
    )
