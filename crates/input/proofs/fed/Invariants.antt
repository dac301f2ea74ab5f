-- The measure is what is left of the chunk.
use Rattle.std.proofs.Common.{◌-◌, length}
use Rattle.input.proofs.fed.Given as goal

abbrev pub decreases-loop-at : goal.decreases-loop-at
decreases-loop-at l = length l.bytes - l.at
