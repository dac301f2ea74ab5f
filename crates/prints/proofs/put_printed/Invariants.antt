-- `prints::put_printed` meets its contract. The invariant: the first i bytes of the text lie as they are printed over the buffer, whose
-- length stays. Assumes nothing.
use mathlib.Core.Path.{◌≡◌}
use lib.ListN.{length, take}
use Rattle.octets.specs.Put.{put}
use Rattle.prints.specs.Printed.{printed}
use Rattle.prints.proofs.put_printed.Given as goal

abbrev pub invariant-loop-i : goal.invariant-loop-i
invariant-loop-i l = (length l.out ≡ length l.initial.out) × (l.out ≡ put l.at (take l.i (printed l.text)) l.initial.out)
