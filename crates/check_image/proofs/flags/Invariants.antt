-- `check_image::flags` meets its contract. The invariant: the flag says what the bytes passed say. Assumes nothing.
use Prim.Native.Nat.{◌+◌}
use mathlib.Core.Path.{◌≡◌}
use lib.ListN.{get_or}
use lib.Dec.{leb}
use Rattle.lists.specs.Lists.{all, numbers}
use Rattle.check_image.proofs.flags.Given as goal

abbrev pub invariant-loop-k : goal.invariant-loop-k
invariant-loop-k l = l.ok ≡ all (λ i. leb (get_or l.table (l.at + i) 0) 1) (numbers 0 l.k)
