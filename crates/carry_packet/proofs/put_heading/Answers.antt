-- `carry_packet::put_heading` meets its contract: the connection byte, and the header right behind it. Assumes nothing.
use mathlib.Core.Path.{refl}
use native.Mathlib.Omega.{arith}
use lib.ListN.{length-set}
use Rattle.carry_packet.proofs.Laid.{heading_laid}
use Rattle.carry_packet.proofs.put_heading.Goals as goal

pub put_header-requires : goal.put_header-requires
put_header-requires c = (refl, rw length-set (omega (arith, c.requires.1)))

pub shape_of-out : goal.shape_of-out
shape_of-out c = omega (arith, length-set c.args.out.now c.args.at c.args.to)

pub returns : goal.returns
returns c = (omega arith, heading_laid _ c.args.to c.args.kind c.args.size c.args.out.now _ c.put_header.ensures.1)
