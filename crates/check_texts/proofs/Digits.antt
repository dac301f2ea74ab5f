-- One place of 10 bytes: it holds a stored number, or in a free row an empty text, and is padded, exactly if it begins as its row says,
-- each byte is zero or a digit, and it is padded. Assumes nothing.
use Prim.Native.Nat.{ℕ, zero, suc, ◌+◌, ◌≤◌}
use mathlib.Core.Path.{◌≡◌, refl, sym, ◌∙◌}
use mathlib.Core.Bool.{Bool, true, false, not, cond, ◌&&◌, ◌||◌}
use mathlib.Core.List.{[], ◌∷◌}
use native.Mathlib.Omega.{arith}
use borrow.Author.Tests.{ne_eqb, le-leb}
use lib.ListN.{length, get_or, take, drop, length-take}
use lib.Dec.{eqb, leb}
use Rattle.octets.specs.Bytes.{Bytes, same, first_zero, every}
use Rattle.octets.proofs.Strings.{and_false}
use Rattle.server.specs.Sizes.{number_size}
use Rattle.server.specs.Layout.{text_at}
use Rattle.server.specs.Rules.{stored_number}
use Rattle.table_laws.specs.Tests.{part, is_zero, is_padded}
use Rattle.check_image.proofs.Places.{part_cons}
use Rattle.check_texts.specs.Stored.{is_digit, digit_or_zero}

-- ---- a list of bytes

-- from the first zero on
abbrev tail : Bytes → Bytes
tail s = drop (first_zero s) s

-- up to the first zero
abbrev text : Bytes → Bytes
text s = take (first_zero s) s

-- zeros are zeros or digits
zeros_pass : (s : Bytes) → every is_zero s ≡ every digit_or_zero s && every is_zero s
unfolding every
zeros_pass [] = refl
zeros_pass (zero ∷ s) = zeros_pass s
zeros_pass (suc x ∷ s) = rw (ne_eqb (suc x) 0 (λ e. omega arith)) (sym (and_false (is_digit (suc x) && every digit_or_zero s)))

-- two tests that agree beside p do so with d before them
and_apart : (d e f p : Bool) → e && p ≡ f && p → (d && e) && p ≡ (d && f) && p
and_apart true e f p q = q
and_apart false e f p q = refl

-- a padded text is of digits exactly if each byte of its place is zero or a digit
digits_pass : (s : Bytes) → every is_digit (text s) && every is_zero (tail s) ≡ every digit_or_zero s && every is_zero (tail s)
unfolding every first_zero
digits_pass [] = refl
digits_pass (zero ∷ s) = zeros_pass s
digits_pass (suc x ∷ s) =
    rw (ne_eqb (suc x) 0 (λ e. omega arith))
    (and_apart (is_digit (suc x)) (every is_digit (text s)) (every digit_or_zero s) (every is_zero (tail s)) (digits_pass s))

-- the first byte, asked twice
twice : (d e p : Bool) → (d && e) && p ≡ (d || false) && ((d && e) && p)
twice true e p = refl
twice false e p = refl

-- whether a text of at most 10 bytes is what its row asks for
abbrev kept : Bool → Bytes → Bool
kept free a = cond (not free) ((leb 1 (length a) && leb (length a) 10) && every is_digit a) (same a [])

-- what the row asks of the first byte
abbrev begins : Bool → ℕ → Bool
begins free x = (not free && is_digit x) || (free && eqb x 0)

-- the place that holds x and then s
place : (free : Bool) (x : ℕ) (s : Bytes) → length s ≤ 9
    → kept free (text (x ∷ s)) && every is_zero (tail (x ∷ s)) ≡ begins free x && (every digit_or_zero (x ∷ s) && every is_zero (tail (x ∷ s)))
unfolding every first_zero same
place true zero s h = zeros_pass s
place false zero s h = refl
place true (suc x) s h = rw (ne_eqb (suc x) 0 (λ e. omega arith))
place false (suc x) s h =
    let l : suc (length (take (first_zero s) s)) ≤ 10 = omega (arith, length-take (first_zero s) s) in
    rw (ne_eqb (suc x) 0 (λ e. omega arith), le-leb 1 (suc (length (take (first_zero s) s))) (omega arith), le-leb (suc (length (take (first_zero s) s))) 10 l)
    (and_apart (is_digit (suc x)) (every is_digit (text s)) (every digit_or_zero s) (every is_zero (tail s)) (digits_pass s)
    ∙ twice (is_digit (suc x)) (every digit_or_zero s) (every is_zero (tail s)))

-- ---- bytes of a table

-- the place of 10 bytes that begins at a byte
pub stored_place : (free : Bool) (b : Bytes) (at : ℕ) → at + 10 ≤ length b
    → cond (not free) (stored_number (text_at number_size b at)) (same (text_at number_size b at) []) && is_padded number_size b at
    ≡ ((not free && is_digit (get_or b at 0)) || (free && eqb (get_or b at 0) 0)) && (every digit_or_zero (part 10 b at) && is_padded number_size b at)
unfolding text_at is_padded
stored_place free b at h = rw (part_cons 9 b at (omega arith)) (place free (get_or b at 0) (part 9 b (suc at)) (omega (arith, length-take 9 (drop (suc at) b))))
