-- The shapes of the two sides. Assumes nothing.
use Prim.Native.Nat.{ℕ}
use mathlib.Core.Path.{◌≡◌}
use mathlib.Core.Bool.{Bool, true, false, cond}
use Rattle.packet.specs.declared.Shape.{Shape}
use Rattle.packet.specs.declared.Side.TheVariants.{Request, Response}
use Rattle.packet.specs.Layout.{request_shape, response_shape}
use Rattle.packet.specs.Packet.{direction_of}

-- a type's shape on one side, told by a test: a request's, or a response's
pub side_shape : (request : Bool) (kind : ℕ) (shape : Shape) → shape ≡ cond request (request_shape kind) (response_shape kind)
    → shape ≡ (direction_of (cond request Request Response)).shape kind
side_shape true kind shape e = e
side_shape false kind shape e = e
