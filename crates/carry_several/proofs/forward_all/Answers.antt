-- `carry_several::forward_all` meets its contract: all of the set get the same packet. Assumes nothing.
use native.Mathlib.Omega.{arith}
use Rattle.octets.proofs.Runs.{laid_as, room_as}
use Rattle.carry_several.proofs.Several.{all_hear}
use Rattle.server.specs.Sizes.{connection_count}
use Rattle.carry_several.proofs.forward_all.Goals as goal

pub send_all-requires : goal.send_all-requires
send_all-requires c = (c.requires.0, omega arith, room_as _ _ (all_hear connection_count _ _ _ _) _ _ c.requires.1)

pub returns : goal.returns
returns c = laid_as _ _ (all_hear connection_count _ _ _ _) _ _ _ _ c.send_all.ensures
