-- `carry_packet::send` meets its contract: the data stands right behind its heading. Assumes nothing.
use mathlib.Core.Path.{refl}
use native.Mathlib.Omega.{arith}
use Rattle.carry_packet.proofs.Laid.{data_laid, message_length}
use Rattle.carry_packet.proofs.send.Goals as goal

pub put_heading-start-requires : goal.put_heading-start-requires
put_heading-start-requires c = (c.requires.0, omega (arith, message_length c.args.to c.args.kind c.args.d.now))

pub put-requires : goal.put-requires
put-requires c = omega (arith, message_length c.args.to c.args.kind c.args.d.now)

pub returns : goal.returns
returns c = data_laid c.args.at c.args.to c.args.kind _ c.args.d.now c.args.out.now refl _ _ c.put_heading-start.ensures _ _ c.put.ensures
