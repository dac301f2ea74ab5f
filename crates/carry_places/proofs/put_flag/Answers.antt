-- `carry_places::put_flag` meets its contract: a flag is a byte 0 or 1. Assumes nothing.
use Rattle.carry_places.proofs.Laid.{flag_put}
use Rattle.carry_places.proofs.put_flag.Goals as goal

pub returns : goal.returns
returns c = flag_put c.args.table.now _ c.args.x
