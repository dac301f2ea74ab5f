-- `carry_packet::send_empty` meets its contract: a heading that says no data is all. Assumes nothing.
use mathlib.Core.List.{[]}
use native.Mathlib.Omega.{arith}
use Rattle.carry_packet.proofs.Laid.{empty_laid, message_length}
use Rattle.carry_packet.proofs.send_empty.Goals as goal

pub put_heading-requires : goal.put_heading-requires
put_heading-requires c = (omega arith, omega (arith, message_length c.args.to c.args.kind []))

pub returns : goal.returns
returns c = empty_laid c.args.at c.args.to c.args.kind c.args.out.now _ _ c.put_heading.ensures
