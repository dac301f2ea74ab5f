-- `show_packet::put_request` meets its contract: the line of its side. Assumes nothing.
use Rattle.show_packet.specs.Lines.{request_line}
use Rattle.show_packet.proofs.put_request.Goals as goal

pub put_line-requires : goal.put_line-requires
unfolding request_line
put_line-requires c = c.requires

pub returns : goal.returns
unfolding request_line
returns c = c.put_line.ensures
