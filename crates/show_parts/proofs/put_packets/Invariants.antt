-- `show_parts::put_packets` meets its contract. The invariant: what is said of the packets before i lies over the text, and packets follow.
-- Assumes nothing.
use Prim.Native.Nat.{◌-◌}
use lib.ListN.{length}
use Rattle.capture.proofs.Lines.{Turning}
use Rattle.show_parts.specs.Parts.{sent_text}
use Rattle.show_parts.proofs.Bounds.{sent_short}
use Rattle.show_parts.proofs.put_packets.Given as goal

abbrev pub invariant-loop-i : goal.invariant-loop-i
invariant-loop-i l = Turning sent_text 14 sent_short l.at l.sent l.initial.text l.text l.place l.i

abbrev pub decreases-loop-i : goal.decreases-loop-i
decreases-loop-i l = length l.sent - l.i
