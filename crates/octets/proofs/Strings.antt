-- Laws of byte strings: what the tests say, and what the library's methods on slices answer in the definitions' words.
-- Assumes nothing.
use mathlib.Core.Path.{◌≡◌, refl, ap, ap₂, ◌∙◌, sym}
use mathlib.Core.Bool.{Bool, true, false, cond, ◌&&◌}
use mathlib.Core.List.{[], ◌∷◌, ◌++◌}
use Prim.Native.Nat.{ℕ, suc, ◌+◌, ◌-◌, ◌*◌, ◌/◌, ◌%◌, ◌^◌, ◌<◌, ◌≤◌, zero-le, suc-le-suc}
use native.Mathlib.Nat.{not-suc-le-zero, le_of_suc-le-suc}
use native.Mathlib.Numerals.{add-one}
use native.Mathlib.Omega.{arith}
use borrow.Author.Tests.{eq-eqb, ne_eqb, eqb-true, eqb-false, le-leb, lt-leb}
use lib.ListN.{length, get_or, take, drop, drop_of_length-le, length-drop}
use lib.Seq.{drop-cons, take_all}
use lib.Dec.{eqb}
use lib.Pointwise.{pointwise}
use Rattle.std.specs.List.{list_all}
use Rattle.octets.specs.Bytes.{Bytes, same, starts_with, first_zero, within, every, big_endian, number_at}

-- ---- a conjunction of tests

pub and_false : (b : Bool) → b && false ≡ false
and_false true = refl
and_false false = refl

pub and_left : (a b : Bool) → a && b ≡ true → a ≡ true
and_left true b e = refl
and_left false b e = e

pub and_right : (a b : Bool) → a && b ≡ true → b ≡ true
and_right true b e = e
and_right false b e = cc

pub and_both : (a b : Bool) → a ≡ true → b ≡ true → a && b ≡ true
and_both true b e f = f
and_both false b e f = e

-- ---- a part of a slice that runs to the end: the code's list is the first `length d - k` of `drop k d`

pub rest_part : (d : Bytes) (k : ℕ) → take (length d - k) (drop k d) ≡ drop k d
rest_part d k = take_all (length d - k) (drop k d) (omega (arith, length-drop k d))

-- ---- a test of two numbers, turned round

eqb_turned : (x y : ℕ) → eqb x y ≡ eqb y x
eqb_turned x y = go (eqb x y) refl
  where
    go : (b : Bool) → eqb x y ≡ b → b ≡ eqb y x
    go true e = sym (eq-eqb y x (sym (eqb-true x y e)))
    go false e = sym (ne_eqb y x (λ q. eqb-false x y e (sym q)))

-- ---- begins with

-- a string begins with its own front
pub starts_self : (p r : Bytes) → starts_with (p ++ r) p ≡ true
unfolding starts_with
starts_self [] r = refl
starts_self (x ∷ p) r = and_both _ _ (eq-eqb x x refl) (starts_self p r)

-- what begins with p is p and the rest
pub starts_is : (s p : Bytes) → starts_with s p ≡ true → s ≡ p ++ drop (length p) s
unfolding starts_with
starts_is s [] e = refl
starts_is [] (y ∷ p) e = let z : ◌≡◌ {A = ℕ} 0 1 = cc in absurd (omega arith)
starts_is (x ∷ s) (y ∷ p) e =
    let q : x ≡ y = eqb-true x y (and_left (eqb x y) (starts_with s p) e) in
    rw q (ap (λ (l : Bytes). y ∷ l) (starts_is s p (and_right (eqb x y) (starts_with s p) e)))

-- ---- equal

-- strings of two lengths differ
pub same_lengths : (s t : Bytes) → (length s ≡ length t → ⊥) → same s t ≡ false
unfolding same
same_lengths [] [] n = absurd (n refl)
same_lengths [] (y ∷ t) n = refl
same_lengths (x ∷ s) [] n = refl
same_lengths (x ∷ s) (y ∷ t) n = rw (same_lengths s t (λ e. n (ap suc e))) (and_false (eqb x y))

pub same_refl : (s : Bytes) → same s s ≡ true
unfolding same
same_refl [] = refl
same_refl (x ∷ s) = and_both _ _ (eq-eqb x x refl) (same_refl s)

pub same_is : (s t : Bytes) → same s t ≡ true → s ≡ t
unfolding same
same_is [] [] e = refl
same_is [] (y ∷ t) e = let z : ◌≡◌ {A = ℕ} 0 1 = cc in absurd (omega arith)
same_is (x ∷ s) [] e = let z : ◌≡◌ {A = ℕ} 0 1 = cc in absurd (omega arith)
same_is (x ∷ s) (y ∷ t) e = ap₂ {C = Bytes} (λ (h : ℕ) (l : Bytes). h ∷ l) (eqb-true x y (and_left (eqb x y) (same s t) e)) (same_is s t (and_right (eqb x y) (same s t) e))

-- ---- the first zero byte

zero_le_step : (b : Bool) (n m : ℕ) → n ≤ m → cond b 0 (suc n) ≤ suc m
zero_le_step true n m h = zero-le
zero_le_step false n m h = suc-le-suc h

pub zero_le_length : (s : Bytes) → first_zero s ≤ length s
unfolding first_zero
zero_le_length [] = zero-le
zero_le_length (x ∷ xs) = zero_le_step (eqb x 0) _ _ (zero_le_length xs)

-- the scan: i bytes passed, none of them zero
module _ (s : Bytes) (i : ℕ) (e : first_zero s ≡ i + first_zero (drop i s)) where
  pub scan_found : i < length s → get_or s i 0 ≡ 0 → i ≡ first_zero s
  unfolding first_zero
  scan_found h z = let q : first_zero (drop i s) ≡ 0 = rw (drop-cons s i 0, eq-eqb _ _ z) in omega (arith, e, q)

  pub scan_on : i < length s → (get_or s i 0 ≡ 0 → ⊥) → first_zero s ≡ i + 1 + first_zero (drop (i + 1) s)
  unfolding first_zero
  scan_on h n = let q : first_zero (drop i s) ≡ suc (first_zero (drop (i + 1) s)) = rw (drop-cons s i 0, ne_eqb _ _ n, add-one) in omega (arith, e, q)

  pub scan_end : length s ≤ i → i ≡ first_zero s
  unfolding first_zero
  scan_end h = let q : first_zero (drop i s) ≡ 0 = rw (drop_of_length-le s h) in omega (arith, e, q)

zero_step : (x : ℕ) (xs : Bytes) (b : Bool) → eqb x 0 ≡ b → (first_zero xs < length xs → get_or xs (first_zero xs) 0 ≡ 0)
    → cond b 0 (suc (first_zero xs)) < suc (length xs) → get_or (x ∷ xs) (cond b 0 (suc (first_zero xs))) 0 ≡ 0
zero_step x xs true e ih h = eqb-true x 0 e
zero_step x xs false e ih h = ih (le_of_suc-le-suc h)

-- it is a zero byte, if it lies inside
pub zero_at_lem : (d : Bytes) → first_zero d < length d → get_or d (first_zero d) 0 ≡ 0
unfolding first_zero
zero_at_lem [] h = absurd (not-suc-le-zero h)
zero_at_lem (x ∷ xs) h = zero_step x xs (eqb x 0) refl (zero_at_lem xs) h

pub clean_step : (n m : ℕ) (b : Bool) → cond b 0 (suc n) ≡ suc m → (b ≡ false) × (n ≡ m)
clean_step n m true e = absurd (omega arith)
clean_step n m false e = (refl, omega arith)

-- after a string without a zero byte, the zero byte that follows it is the first
pub zero_after : (a r : Bytes) → first_zero a ≡ length a → first_zero (a ++ (0 ∷ r)) ≡ length a
unfolding first_zero
zero_after [] r e = refl
zero_after (x ∷ xs) r e =
    let s = clean_step (first_zero xs) (length xs) (eqb x 0) e in
    rw s.0 (ap suc (zero_after xs r s.1))

-- ---- each byte passes a test

-- the walk: i bytes passed, each within lo and hi
module _ (s : Bytes) (lo hi i : ℕ) (e : every (within lo hi) s ≡ every (within lo hi) (drop i s)) where
  pub every_low : i < length s → get_or s i 0 < lo → false ≡ every (within lo hi) s
  unfolding every
  every_low h l = sym (e ∙ rw (drop-cons s i 0 h, lt-leb _ _ l))

  pub every_high : i < length s → lo ≤ get_or s i 0 → hi < get_or s i 0 → false ≡ every (within lo hi) s
  unfolding every
  every_high h l k = sym (e ∙ rw (drop-cons s i 0 h, le-leb _ _ l, lt-leb _ _ k))

  pub every_on : i < length s → lo ≤ get_or s i 0 → get_or s i 0 ≤ hi → every (within lo hi) s ≡ every (within lo hi) (drop (i + 1) s)
  unfolding every
  every_on h l k = e ∙ rw (drop-cons s i 0 h, le-leb _ _ l, le-leb _ _ k, add-one)

  pub every_end : length s ≤ i → true ≡ every (within lo hi) s
  unfolding every
  every_end h = sym (e ∙ rw (drop_of_length-le s h))

-- ---- numbers in four bytes

pub number_written : (x : ℕ) (r : Bytes) → x < 2 ^ 32 → number_at (big_endian x ++ r) 0 ≡ x
number_written x r h = omega arith

pub written_number : (a b c d : ℕ) → a < 256 → b < 256 → c < 256 → d < 256 → big_endian (((a * 256 + b) * 256 + c) * 256 + d) ≡ a ∷ b ∷ c ∷ d ∷ []
written_number a b c d ha hb hc hd =
    let x : ℕ = ((a * 256 + b) * 256 + c) * 256 + d in
    let e1 : x / 16777216 ≡ a = omega arith in
    let e2 : x / 65536 % 256 ≡ b = omega arith in
    let e3 : x / 256 % 256 ≡ c = omega arith in
    let e4 : x % 256 ≡ d = omega arith in
    cc

-- ---- what std's methods answer, in the definitions' words

-- a test of each element: `all`
pub all_every : (f : ℕ → Bool) (s : Bytes) → list_all f s ≡ every f s
unfolding every
all_every f [] = refl
all_every f (x ∷ s) = rw (all_every f s)

-- two lists element by element: `==`
pub pointwise_same : (s t : Bytes) → pointwise eqb s t ≡ same s t
unfolding same
pointwise_same [] [] = refl
pointwise_same [] (y ∷ t) = refl
pointwise_same (x ∷ s) [] = refl
pointwise_same (x ∷ s) (y ∷ t) = rw (pointwise_same s t)

-- the front as long as the prefix: `starts_with`
pub front_starts : (s p : Bytes) → pointwise eqb p (take (length p) s) ≡ starts_with s p
unfolding starts_with
front_starts s [] = refl
front_starts [] (y ∷ p) = refl
front_starts (x ∷ s) (y ∷ p) = rw (eqb_turned y x, front_starts s p)
