-- The digits of bytes: two for each byte, and how the loop of writing meets them. Assumes nothing.
use Prim.Native.Nat.{ℕ, ◌+◌, ◌*◌, ◌<◌, ◌≤◌}
use mathlib.Core.Path.{◌≡◌, refl, sym}
use mathlib.Core.List.{[], ◌∷◌, ◌++◌}
use native.Mathlib.Numerals.{add-one}
use native.Mathlib.Omega.{arith}
use lib.ListN.{length, get_or, take}
use lib.Seq.{take-suc, take-length, length-take-le}
use Rattle.octets.specs.Bytes.{Bytes}
use Rattle.octets.specs.Put.{put}
use Rattle.octets.proofs.Laying.{put_none, put_next}
use Rattle.hexadecimal.specs.Hex.{hex_byte, hex}

pub hex_length : (b : Bytes) → length (hex b) ≡ 2 * length b
unfolding hex
hex_length [] = refl
hex_length (x ∷ b) = omega (arith, hex_length b)

hex_append : (s t : Bytes) → hex (s ++ t) ≡ hex s ++ hex t
unfolding hex
hex_append [] t = refl
hex_append (x ∷ s) t = rw (hex_append s t)

hex_one : (x : ℕ) → hex (x ∷ []) ≡ hex_byte x
unfolding hex
hex_one x = refl

-- the laying under way: the digits of i bytes lie over the buffer from `at` on
module _ (b : Bytes) (at : ℕ) (s : Bytes) where
  pub hex_room : at + length (hex s) ≤ length b → at + 2 * length s ≤ length b
  hex_room h = omega (arith, hex_length s)

  pub hex_none : b ≡ put at (hex (take 0 s)) b
  unfolding hex
  hex_none = sym (put_none at b)

  pub hex_more : (o p w : Bytes) (place i : ℕ) → o ≡ put at (hex (take i s)) b → place ≡ at + 2 * i → i < length s
      → w ≡ hex_byte (get_or s i 0) → p ≡ put place w o → p ≡ put at (hex (take (i + 1) s)) b
  hex_more o p w place i eo el k ew ep =
      let n : length (hex (take i s)) ≡ 2 * i = omega (arith, hex_length (take i s), length-take-le i s (omega arith)) in
      let t : hex (take (i + 1) s) ≡ hex (take i s) ++ w = rw (add-one, take-suc s i 0 k, hex_append, hex_one, ew) in
      rw (t, ep, eo, el) (put_next at (hex (take i s)) w b (2 * i) n)

  pub hex_place : (place i : ℕ) → place ≡ at + 2 * i → i ≤ length s → length s ≤ i → place ≡ at + length (hex s)
  hex_place place i e h k = omega (arith, hex_length s)

  pub hex_all : (o : Bytes) (i : ℕ) → o ≡ put at (hex (take i s)) b → i ≤ length s → length s ≤ i → o ≡ put at (hex s) b
  hex_all o i e h k = let q : i ≡ length s = omega arith in rw (e, q, take-length)
