-- `check_image::all_followed` meets its contract. The invariant: the flag says what the runs of 64 bytes passed say. Assumes nothing.
use Prim.Native.Nat.{◌+◌, ◌*◌}
use mathlib.Core.Path.{◌≡◌}
use Rattle.lists.specs.Lists.{all, numbers}
use Rattle.check_image.specs.Padded.{last_or_followed}
use Rattle.check_image.proofs.all_followed.Given as goal

abbrev pub invariant-loop-i : goal.invariant-loop-i
invariant-loop-i l = l.ok ≡ all (λ k. all (last_or_followed l.last l.table (l.at + 64 * k)) (numbers 0 64)) (numbers 0 l.i)
