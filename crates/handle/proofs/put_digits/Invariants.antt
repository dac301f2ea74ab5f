-- `handle::put_digits` meets its contract. The invariant: the digits from the i-th on lie over the output, whose length stays, and those
-- before it are the decimal of `left`, in i digits. Assumes nothing.
use Prim.Native.Nat.{◌+◌}
use mathlib.Core.Path.{◌≡◌}
use lib.ListN.{length, take, drop}
use Rattle.octets.specs.Put.{put}
use Rattle.handle.specs.Handle.{decimal_in}
use Rattle.handle.proofs.put_digits.Given as goal

abbrev pub invariant-loop-i : goal.invariant-loop-i
invariant-loop-i l = (length l.out ≡ length l.initial.out) × (take l.i (decimal_in l.most l.number) ≡ decimal_in l.i l.left) × (l.out ≡ put (l.at + l.i) (drop l.i (decimal_in l.most l.number)) l.initial.out)
