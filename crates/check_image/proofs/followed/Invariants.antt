-- `check_image::followed` meets its contract. The invariant: the slack is zero exactly if none was found after the bytes passed. Assumes nothing.
use mathlib.Core.Path.{◌≡◌}
use lib.Dec.{eqb}
use Rattle.lists.specs.Lists.{all, numbers}
use Rattle.check_image.specs.Padded.{last_or_followed}
use Rattle.check_image.proofs.followed.Given as goal

abbrev pub invariant-loop-k : goal.invariant-loop-k
invariant-loop-k l = eqb l.slack 0 ≡ all (last_or_followed l.last l.table l.at) (numbers 0 l.k)
