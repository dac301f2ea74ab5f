-- `sets::has` meets its contract: a shift is a division by a power of two. Assumes nothing.
use mathlib.Core.Path.{refl}
use Rattle.sets.specs.Sets as S
use Rattle.sets.proofs.has.Goals as goal

pub returns : goal.returns
unfolding S.has
returns c = refl
