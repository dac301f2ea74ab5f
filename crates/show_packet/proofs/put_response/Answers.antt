-- `show_packet::put_response` meets its contract: the line of its side. Assumes nothing.
use Rattle.show_packet.specs.Lines.{response_line}
use Rattle.show_packet.proofs.put_response.Goals as goal

pub put_line-requires : goal.put_line-requires
unfolding response_line
put_line-requires c = c.requires

pub returns : goal.returns
unfolding response_line
returns c = c.put_line.ensures
