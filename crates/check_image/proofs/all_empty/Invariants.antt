-- `check_image::all_empty` meets its contract. The invariant: what was found is zero exactly if the places passed begin with a zero. Assumes nothing.
use mathlib.Core.Path.{◌≡◌}
use lib.Dec.{eqb}
use Rattle.lists.specs.Lists.{all, numbers}
use Rattle.check_image.specs.Padded.{empty_at}
use Rattle.check_image.proofs.all_empty.Given as goal

abbrev pub invariant-loop-k : goal.invariant-loop-k
invariant-loop-k l = eqb l.found 0 ≡ all (empty_at l.table l.at l.w) (numbers 0 l.k)
