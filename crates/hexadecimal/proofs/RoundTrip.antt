-- Bytes written in hexadecimal are read back, and digits that are read are written back. Assumes nothing.
use Prim.Native.Nat.{ℕ, suc, ◌+◌, ◌-◌, ◌*◌, ◌/◌, ◌%◌, ◌<◌, ◌≤◌}
use mathlib.Core.Path.{◌≡◌, refl, sym, ap, ◌∙◌}
use mathlib.Core.Bool.{Bool, true, false, cond, ◌&&◌}
use Rattle.std.specs.Prelude.{Option, Some, None}
use mathlib.Core.List.{[], ◌∷◌}
use mathlib.Core.Logic.{◌⊎◌, inl, inr, ⊎_elim}
use native.Mathlib.Omega.{arith}
use borrow.Author.Tests.{le-leb, leb-true, leb-false}
use lib.ListN.{get_or}
use lib.Dec.{leb}
use Rattle.octets.specs.Bytes.{Bytes}
use Rattle.hexadecimal.specs.Hex.{digit_value, cons_byte, hex_digit, unhex, hex}
use Rattle.hexadecimal.specs.Spelling.{is_digit}
use Rattle.hexadecimal.proofs.Digits.{value_below, value_decimal, value_between, value_letter, value_above, digit_decimal, digit_letter}

-- ---- one digit

split_at : (b : Bool) (n k : ℕ) → leb n k ≡ b → (n ≤ k) ⊎ (k < n)
split_at true n k e = inl (leb-true n k e)
split_at false n k e = inr (leb-false n k e)

-- n is at most k, or above it
at_most : (n k : ℕ) → (n ≤ k) ⊎ (k < n)
at_most n k = split_at (leb n k) n k refl

-- the digit of a number stands for it
digit_value_lem : (n : ℕ) → n ≤ 15 → digit_value (hex_digit n) ≡ n
digit_value_lem n h =
    ⊎_elim
    (λ k. ap digit_value (sym (digit_decimal n (omega arith))) ∙ sym (value_decimal (n + 48) (omega arith) (omega arith)) ∙ omega arith)
    (λ k. ap digit_value (sym (digit_letter n (omega arith))) ∙ sym (value_letter (n + 87) (omega arith) (omega arith)) ∙ omega arith)
    (at_most n 9)

-- a digit is that of the number for which it stands
module _ (x : ℕ) (h : digit_value x ≤ 15) where
  decimal_digit : 48 ≤ x → x ≤ 57 → hex_digit (digit_value x) ≡ x
  decimal_digit k m = ap hex_digit (sym (value_decimal x k m)) ∙ sym (digit_decimal (x - 48) (omega arith)) ∙ omega arith

  letter_digit : 97 ≤ x → x ≤ 102 → hex_digit (digit_value x) ≡ x
  letter_digit k m = ap hex_digit (sym (value_letter x k m)) ∙ sym (digit_letter (x - 87) (omega arith)) ∙ omega arith

  above_57 : 57 < x → hex_digit (digit_value x) ≡ x
  above_57 k =
      ⊎_elim
      (λ m. absurd (omega (arith, value_between x k (omega arith))))
      (λ m. ⊎_elim (letter_digit (omega arith)) (λ p. absurd (omega (arith, value_above x p))) (at_most x 102))
      (at_most x 96)

  value_digit : hex_digit (digit_value x) ≡ x
  value_digit =
      ⊎_elim
      (λ k. absurd (omega (arith, value_below x (omega arith))))
      (λ k. ⊎_elim (decimal_digit (omega arith)) above_57 (at_most x 57))
      (at_most x 47)

-- ---- bytes

pub unhex_hex : (b : Bytes) → ((i : ℕ) → get_or b i 0 < 256) → unhex (hex b) ≡ Some b
unfolding unhex hex
unhex_hex [] f = refl
unhex_hex (x ∷ b) f =
    let hx : x < 256 = f 0 in
    let eh : digit_value (hex_digit (x / 16)) ≡ x / 16 = digit_value_lem (x / 16) (omega arith) in
    let el : digit_value (hex_digit (x % 16)) ≡ x % 16 = digit_value_lem (x % 16) (omega arith) in
    let q : x / 16 * 16 + x % 16 ≡ x = omega arith in
    let ih : unhex (hex b) ≡ Some b = unhex_hex b (λ i. f (suc i)) in
    rw (eh, el, le-leb (x / 16) 15 (omega arith), le-leb (x % 16) 15 (omega arith), ih, q)

-- where a pair of digits in front of others spells bytes, both are digits
paired : (a c : Bool) (v : ℕ) (r : Option Bytes) (b : Bytes) → cond (a && c) (cons_byte v r) None ≡ Some b → (a ≡ true) × (c ≡ true) × (cons_byte v r ≡ Some b)
paired true true v r b e = (refl, refl, e)
paired true false v r b e = let z : ◌≡◌ {A = ℕ} 0 1 = cc in absurd (omega arith)
paired false c v r b e = let z : ◌≡◌ {A = ℕ} 0 1 = cc in absurd (omega arith)

-- the first byte of those spelled is the pair's
fronted : (v : ℕ) (d b : Bytes) (r : Option Bytes) → ((c : Bytes) → r ≡ Some c → hex c ≡ d) → cons_byte v r ≡ Some b → hex b ≡ hex_digit (v / 16) ∷ hex_digit (v % 16) ∷ d
unfolding hex
fronted v d b None f e = let z : ◌≡◌ {A = ℕ} 0 1 = cc in absurd (omega arith)
fronted v d b (Some c) f e = let q : b ≡ v ∷ c = cc in rw (q, f c refl)

halves : (h l : ℕ) → h ≤ 15 → l ≤ 15 → ((h * 16 + l) / 16 ≡ h) × ((h * 16 + l) % 16 ≡ l)
halves h l p q = (omega arith, omega arith)

pub hex_unhex : (d b : Bytes) → unhex d ≡ Some b → hex b ≡ d
unfolding unhex hex
hex_unhex [] b e = let q : b ≡ [] = cc in rw q
hex_unhex (x ∷ []) b e = let z : ◌≡◌ {A = ℕ} 0 1 = cc in absurd (omega arith)
hex_unhex (x ∷ (y ∷ d)) b e =
    let h = digit_value x in
    let l = digit_value y in
    let p = paired (is_digit x) (is_digit y) (h * 16 + l) (unhex d) b e in
    let hx : h ≤ 15 = leb-true h 15 p.0 in
    let hy : l ≤ 15 = leb-true l 15 p.1 in
    fronted (h * 16 + l) d b (unhex d) (hex_unhex d) p.2 ∙ rw ((halves h l hx hy).0, (halves h l hx hy).1, value_digit x hx, value_digit y hy)
