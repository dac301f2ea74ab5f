-- The limits of the two sides. Assumes nothing.
use Prim.Native.Nat.{◌≤◌}
use mathlib.Core.Path.{◌≡◌, refl}
use native.Mathlib.Omega.{arith}
use lib.ListN.{length}
use Rattle.packet.specs.declared.Side.{Side}
use Rattle.packet.specs.declared.Side.TheVariants.{Request, Response}
use Rattle.packet.specs.Packet.{direction_of}

pub side_most : (w : Side) → (direction_of w).most ≤ 1088
side_most Request = omega arith
side_most Response = omega arith

pub side_magic : (w : Side) → length (direction_of w).magic ≡ 4
side_magic Request = refl
side_magic Response = refl
