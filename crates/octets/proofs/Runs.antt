-- Runs of bytes that functions lay one after the other over a buffer: what each asks for in room, and what they make together.
-- Assumes nothing.
use Prim.Native.Nat.{ℕ, ◌+◌, ◌≤◌}
use mathlib.Core.Path.{◌≡◌, ap, ◌∙◌, sym}
use mathlib.Core.List.{[], ◌++◌}
use native.Mathlib.Omega.{arith}
use lib.ListN.{length, length-append}
use Rattle.octets.specs.Bytes.{Bytes}
use Rattle.octets.specs.Put.{put}
use Rattle.octets.proofs.Laying.{put_none, put_put, length_put}

-- nothing is laid
pub laid_none : (at : ℕ) (b : Bytes) → (at ≡ at + length {A = ℕ} []) × (b ≡ put at [] b)
laid_none at b = (omega arith, sym (put_none at b))

-- what was laid as the run x is the run y, if they are equal; and what has room for y has room for x
module _ (x y : Bytes) (q : x ≡ y) (at : ℕ) where
  pub room_as : (n : ℕ) → at + length y ≤ n → at + length x ≤ n
  room_as n h = rw q h

  pub laid_as : (r : ℕ) (o b : Bytes) → (r ≡ at + length x) × (o ≡ put at x b) → (r ≡ at + length y) × (o ≡ put at y b)
  laid_as r o b e = rw (← q) e

-- x, and y from the place after it on
pub room_first : (at : ℕ) (x y : Bytes) (n : ℕ) → at + length (x ++ y) ≤ n → at + length x ≤ n
room_first at x y n h = omega (arith, length-append x y)

module _ (at : ℕ) (x y b : Bytes) where
  module _ (p : ℕ) (o : Bytes) (e : (p ≡ at + length x) × (o ≡ put at x b)) where
    pub room_then : at + length (x ++ y) ≤ length b → p + length y ≤ length o
    room_then h = omega (arith, length-append x y, e.0, ap length e.1 ∙ length_put at x b)

    pub laid_then : (r : ℕ) (z : Bytes) → (r ≡ p + length y) × (z ≡ put p y o) → (r ≡ at + length (x ++ y)) × (z ≡ put at (x ++ y) b)
    laid_then r z f = (omega (arith, length-append x y, e.0, f.0), rw (f.1, e.1, e.0) (put_put at x y b))

-- x, then y, then z
module _ (at : ℕ) (x y z b : Bytes) (p : ℕ) (o : Bytes) (e : (p ≡ at + length x) × (o ≡ put at x b)) where
  pub room_second : at + length (x ++ (y ++ z)) ≤ length b → p + length y ≤ length o
  room_second h = room_first p y z (length o) (room_then at x (y ++ z) b p o e h)

  module _ (q : ℕ) (u : Bytes) (f : (q ≡ p + length y) × (u ≡ put p y o)) where
    pub room_third : at + length (x ++ (y ++ z)) ≤ length b → q + length z ≤ length u
    room_third h = room_then p y z o q u f (room_then at x (y ++ z) b p o e h)

    pub laid_third : (r : ℕ) (v : Bytes) → (r ≡ q + length z) × (v ≡ put q z u) → (r ≡ at + length (x ++ (y ++ z))) × (v ≡ put at (x ++ (y ++ z)) b)
    laid_third r v g = laid_then at x (y ++ z) b p o e r v (laid_then p y z o q u f r v g)
