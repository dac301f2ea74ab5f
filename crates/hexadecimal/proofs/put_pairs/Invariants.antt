-- `hexadecimal::put_pairs` meets its contract. The invariant: the first i bytes lie over the start of the buffer, whose length stays.
-- Assumes nothing.
use mathlib.Core.Path.{◌≡◌}
use lib.ListN.{length, take}
use Rattle.octets.specs.Put.{put}
use Rattle.hexadecimal.specs.Spelling.{pairs}
use Rattle.hexadecimal.proofs.put_pairs.Given as goal

abbrev pub invariant-loop-i : goal.invariant-loop-i
invariant-loop-i l = (length l.out ≡ length l.initial.out) × (l.out ≡ put 0 (take l.i (pairs l.digits)) l.initial.out)
