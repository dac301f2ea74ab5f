-- `check_image::zeros` meets its contract. The invariant: what was found is zero exactly if the bytes passed are. Assumes nothing.
use mathlib.Core.Path.{◌≡◌}
use lib.Dec.{eqb}
use Rattle.lists.specs.Lists.{all, numbers}
use Rattle.check_image.specs.Padded.{zero_at}
use Rattle.check_image.proofs.zeros.Given as goal

abbrev pub invariant-loop-k : goal.invariant-loop-k
invariant-loop-k l = eqb l.found 0 ≡ all (zero_at l.table l.at) (numbers 0 l.k)
