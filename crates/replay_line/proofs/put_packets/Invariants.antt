-- `replay_line::put_packets` meets its contract. The invariant: the lines of the packets before i lie over the text, and packets follow.
-- Assumes nothing.
use Prim.Native.Nat.{◌-◌}
use lib.ListN.{length}
use Rattle.capture.proofs.Lines.{Turning}
use Rattle.replay_line.specs.Replayed.{line_of}
use Rattle.replay_line.proofs.Digits.{line_short}
use Rattle.replay_line.proofs.put_packets.Given as goal

abbrev pub invariant-loop-i : goal.invariant-loop-i
invariant-loop-i l = Turning line_of 3 line_short 0 l.output l.initial.text l.text l.at l.i

abbrev pub decreases-loop-i : goal.decreases-loop-i
decreases-loop-i l = length l.output - l.i
