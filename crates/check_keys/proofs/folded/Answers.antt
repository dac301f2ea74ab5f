-- `check_keys::folded` meets its contract. Assumes nothing.
use mathlib.Core.Path.{refl}
use Rattle.check_keys.specs.Keys.{folded}
use Rattle.check_keys.proofs.folded.Goals as goal

pub returns : goal.returns
unfolding folded
returns c = refl
