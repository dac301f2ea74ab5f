-- `carry_packet::send_option` meets its contract: the one option has one name. Assumes nothing.
use native.Mathlib.Omega.{arith}
use Rattle.packet.specs.Arguments.{join}
use Rattle.carry_packet.specs.Messages.{option_arguments}
use Rattle.carry_packet.proofs.send_option.Goals as goal

pub send-requires : goal.send-requires
unfolding join option_arguments
send-requires c = (omega arith, c.requires)

pub returns : goal.returns
unfolding join option_arguments
returns c = c.send.ensures
