-- `octets::first_zero` meets its contract. The invariant: the i bytes passed are not zero. Assumes nothing.
use Prim.Native.Nat.{◌+◌}
use mathlib.Core.Path.{◌≡◌}
use lib.ListN.{drop}
use Rattle.octets.specs.Bytes.{first_zero}
use Rattle.octets.proofs.first_zero.Given as goal

abbrev pub invariant-loop-i : goal.invariant-loop-i
invariant-loop-i l = first_zero l.s ≡ l.i + first_zero (drop l.i l.s)
