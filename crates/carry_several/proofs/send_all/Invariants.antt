-- `carry_several::send_all` meets its contract. The invariant: the packets to the members below the next listener lie over the output.
-- It ends where the set has nobody from the next listener on, or behind the last connection. Assumes nothing.
use Prim.Native.Nat.{◌+◌}
use mathlib.Core.Path.{◌≡◌}
use lib.ListN.{length}
use Rattle.octets.specs.Put.{put}
use Rattle.sets.specs.Sets.{members}
use Rattle.carry_several.specs.Several.{told_messages}
use Rattle.carry_several.proofs.send_all.Given as goal

abbrev pub invariant-loop-listener : goal.invariant-loop-listener
invariant-loop-listener l = (l.place ≡ l.at + length (told_messages (members l.listener l.to) l.heard l.kind l.d l.failed)) × (l.out ≡ put l.at (told_messages (members l.listener l.to) l.heard l.kind l.d l.failed) l.initial.out)
