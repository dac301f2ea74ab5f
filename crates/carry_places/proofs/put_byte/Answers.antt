-- `carry_places::put_byte` meets its contract: a byte is below 256, so its place holds it as it is. Assumes nothing.
use Rattle.carry_places.proofs.Laid.{byte_put}
use native.Mathlib.Omega.{arith}
use Rattle.carry_places.proofs.put_byte.Goals as goal

pub returns : goal.returns
returns c = byte_put _ _ _ (omega arith)
