-- `carry_packet::put_argument` meets its contract: the zero byte stands right behind the argument. Assumes nothing.
use native.Mathlib.Omega.{arith}
use Rattle.carry_packet.proofs.Laid.{ended_laid}
use Rattle.carry_packet.proofs.put_argument.Goals as goal

pub returns : goal.returns
returns c = (omega arith, ended_laid c.args.at _ c.args.a.now c.args.out.now _ c.put-end.ensures)
