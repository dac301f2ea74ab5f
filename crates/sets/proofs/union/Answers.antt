-- `sets::union` meets its contract: `|` is the definition's own `bit_or`. Assumes nothing.
use mathlib.Core.Path.{refl}
use Rattle.sets.specs.Sets as S
use Rattle.sets.proofs.union.Goals as goal

pub returns : goal.returns
unfolding S.union
returns c = refl
