-- `packet_join::put_joined` meets its contract, by recursion on how many arguments are left: the first argument, a zero byte and the data
-- of the others, laid one after the other, are one run. Assumes nothing.
use lib.ListN.{length}
use Rattle.packet_join.proofs.+put_joined.Given as goal

abbrev pub decreases-put_joined : goal.decreases-put_joined
decreases-put_joined l = length l.arguments.now
