-- `handle::number_of` meets its contract. The invariant: the number that all the bytes make is that of the rest after `number`, all are
-- digits if the rest are, and `number` has at most as many digits as bytes passed, so that it does not wrap. Assumes nothing.
use Prim.Native.Nat.{◌<◌, ◌^◌}
use mathlib.Core.Path.{◌≡◌}
use lib.ListN.{drop}
use Rattle.octets.specs.Bytes.{every, within}
use Rattle.handle.specs.Handle.{value}
use Rattle.handle.proofs.number_of.Given as goal

abbrev pub invariant-loop-x : goal.invariant-loop-x
invariant-loop-x l = (l.number < 10 ^ l.x-index) × (value 0 l.digits ≡ value l.number (drop l.x-index l.digits)) × (every (within 48 57) l.digits ≡ every (within 48 57) (drop l.x-index l.digits))
