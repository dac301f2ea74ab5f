-- `packet_split::split_from` meets its contract, by recursion on how many rules are left: the last rule has all the data that is left,
-- and any other the data before the first zero byte, after which the rest goes to the rules that follow. Assumes nothing.
use Prim.Native.Nat.{◌-◌}
use lib.ListN.{length}
use Rattle.packet.specs.Layout.{rules_of}
use Rattle.packet_split.proofs.+split_from.Given as goal

abbrev pub decreases-split_from : goal.decreases-split_from
decreases-split_from l = length (rules_of l.shape) - l.i
