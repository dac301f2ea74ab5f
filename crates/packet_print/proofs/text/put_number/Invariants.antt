-- The first digit's place is one of the ten.
use Rattle.std.proofs.Common.{◌≤◌}
use Rattle.packet_print.proofs.text.put_number.Given as goal

abbrev pub invariant-loop-place : goal.invariant-loop-place
invariant-loop-place l = l.first ≤ 10
