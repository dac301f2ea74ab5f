-- What is printed of a text: each byte is one from 33 to 126, as many as there are, and the text itself where all its bytes are such; and
-- what is printed of one that may be empty. 02, ask 1: "In names and ids a byte outside 33 to 126 prints as `?`." Assumes nothing.
use Prim.Native.Nat.{ℕ, suc, ◌+◌, ◌≤◌}
use mathlib.Core.Path.{◌≡◌, refl, ap, ap₂}
use mathlib.Core.Bool.{Bool, true, false, cond}
use mathlib.Core.List.{[], ◌∷◌}
use native.Mathlib.Omega.{arith}
use lib.ListN.{length}
use Rattle.octets.specs.Bytes.{Bytes, within, every}
use Rattle.octets.proofs.Strings.{and_left, and_right, and_both}
use Rattle.prints.specs.Printed.{printed, printed_byte, printed_or}

readable : (x : ℕ) → within 33 126 (printed_byte x) ≡ true
readable x = go (within 33 126 x) refl
  where
    go : (b : Bool) → within 33 126 x ≡ b → within 33 126 (cond b x 63) ≡ true
    go true e = e
    go false e = refl

pub printed_readable : (s : Bytes) → every (within 33 126) (printed s) ≡ true
unfolding printed every
printed_readable [] = refl
printed_readable (x ∷ s) = and_both (within 33 126 (printed_byte x)) _ (readable x) (printed_readable s)

pub printed_same : (s : Bytes) → every (within 33 126) s ≡ true → printed s ≡ s
unfolding printed every
printed_same [] e = refl
printed_same (x ∷ s) e =
    ap₂ {C = Bytes} (λ (y : ℕ) (l : Bytes). y ∷ l) (rw (and_left (within 33 126 x) _ e)) (printed_same s (and_right (within 33 126 x) _ e))

pub length_printed : (s : Bytes) → length (printed s) ≡ length s
unfolding printed
length_printed [] = refl
length_printed (x ∷ s) = ap suc (length_printed s)

-- ---- a text that may be empty, by the test of the code

module _ (none : Bytes) where
  pub printed_none : (s : Bytes) → length s ≡ 0 → none ≡ printed_or none s
  unfolding printed_or
  printed_none [] e = refl
  printed_none (x ∷ s) e = absurd (omega arith)

  pub printed_some : (s : Bytes) → (length s ≡ 0 → ⊥) → printed s ≡ printed_or none s
  unfolding printed_or
  printed_some [] n = absurd (n refl)
  printed_some (x ∷ s) n = refl

  -- what stands for the empty text comes on top at the most
  pub printed_or_short : (s : Bytes) → length (printed_or none s) ≤ length s + length none
  unfolding printed_or
  printed_or_short [] = omega arith
  printed_or_short (x ∷ s) = omega (arith, length_printed (x ∷ s))
