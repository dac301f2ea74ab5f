-- `check_image::uniques_padded` meets its contract: the mask is the one of its width. Assumes nothing.
use mathlib.Core.Path.{refl}
use native.Mathlib.Omega.{arith}
use Rattle.check_image.specs.Padded.{last_of}
use Rattle.check_image.proofs.uniques_padded.Goals as goal

pub runs_padded-requires : goal.runs_padded-requires
unfolding last_of
runs_padded-requires c = (omega arith, refl, refl)
