-- `carry_packet::forward` meets its contract: what lies behind the packet's header goes out as it came. Assumes nothing.
use Rattle.carry_packet.proofs.Forwarding.{forward_long, forward_limited}
use Rattle.carry_packet.proofs.forward.Goals as goal

pub data-requires : goal.data-requires
data-requires c = forward_long _ _ _ c.requires.0

pub send-requires : goal.send-requires
send-requires c = rw c.data.ensures (forward_limited _ _ _ c.requires.0, c.requires.1)

pub returns : goal.returns
returns c = rw c.data.ensures at c.send.ensures
