-- `hexadecimal::put_hex` meets its contract. The invariant: the digits of the first bytes passed lie over the buffer, whose length stays.
-- Assumes nothing.
use Prim.Native.Nat.{◌≤◌, ◌+◌, ◌*◌}
use mathlib.Core.Path.{◌≡◌}
use lib.ListN.{length, take}
use Rattle.octets.specs.Put.{put}
use Rattle.hexadecimal.specs.Hex.{hex}
use Rattle.hexadecimal.proofs.put_hex.Given as goal

abbrev pub invariant-loop-x : goal.invariant-loop-x
invariant-loop-x l = (l.place ≡ l.at + 2 * l.x-index) × (l.at + 2 * length l.bytes ≤ length l.initial.out) × (length l.out ≡ length l.initial.out) × (l.out ≡ put l.at (hex (take l.x-index l.bytes)) l.initial.out)
