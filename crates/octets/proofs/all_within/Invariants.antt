-- `octets::all_within` meets its contract. The invariant: the bytes passed lie within the bounds, so the answer is that of the
-- rest. Assumes nothing.
use mathlib.Core.Path.{◌≡◌}
use lib.ListN.{drop}
use Rattle.octets.specs.Bytes.{every, within}
use Rattle.octets.proofs.all_within.Given as goal

abbrev pub invariant-loop-byte : goal.invariant-loop-byte
invariant-loop-byte l = every (within l.low l.high) l.s ≡ every (within l.low l.high) (drop l.byte-index l.s)
