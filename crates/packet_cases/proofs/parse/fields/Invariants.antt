-- The field under way is one of the ten.
use Rattle.std.proofs.Common.{◌<◌}
use Rattle.packet_cases.proofs.parse.fields.Given as goal

abbrev pub invariant-loop-x : goal.invariant-loop-x
invariant-loop-x l = l.k < 10
