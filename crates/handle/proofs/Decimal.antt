-- Laws of decimal numbers: their length, their digits, that a number of at most ten digits comes back from its text, so that printing
-- is one to one, and that digits with no leading zero come back from their number. Assumes nothing.
use Prim.Native.Nat.{ℕ, zero, suc, ◌+◌, ◌-◌, ◌*◌, ◌/◌, ◌%◌, ◌^◌, ◌<◌, ◌≤◌, zero-le}
use mathlib.Core.Path.{◌≡◌, refl, ap, ◌∙◌, sym}
use mathlib.Core.Bool.{Bool, true, false, cond}
use mathlib.Core.List.{[], ◌∷◌, ◌++◌, append_assoc, append-nil}
use native.Mathlib.Nat.{pow-suc, zero-add}
use native.Mathlib.Omega.{arith}
use borrow.Author.Tests.{ltb-false, ltb-true, lt-ltb, le-leb, leb-true}
use lib.ListN.{length, get_or, length-append, get_or-append}
use lib.Dec.{leb, ltb}
use Rattle.octets.specs.Bytes.{Bytes, every, within}
use Rattle.octets.proofs.Strings.{and_both, and_left, and_right}
use Rattle.handle.specs.Handle.{decimal_in, decimal, value}

-- ---- how long

module _ (x y : ℕ) (s : Bytes) where
  most_step : (b : Bool) (k : ℕ) → length s ≤ k → length (cond b (x ∷ []) (s ++ (y ∷ []))) ≤ suc k
  most_step true k h = omega arith
  most_step false k h = rw length-append (omega arith)

  least_step : (b : Bool) → 1 ≤ length (cond b (x ∷ []) (s ++ (y ∷ [])))
  least_step true = omega arith
  least_step false = rw length-append (omega arith)

pub decimal_in_most : (k n : ℕ) → length (decimal_in k n) ≤ k
unfolding decimal_in
decimal_in_most zero n = zero-le
decimal_in_most (suc k) n = most_step (n + 48) (n % 10 + 48) (decimal_in k (n / 10)) (ltb n 10) k (decimal_in_most k (n / 10))

pub decimal_in_least : (k n : ℕ) → 1 ≤ length (decimal_in (suc k) n)
unfolding decimal_in
decimal_in_least k n = least_step (n + 48) (n % 10 + 48) (decimal_in k (n / 10)) (ltb n 10)

pub decimal_most : (n : ℕ) → length (decimal n) ≤ 10
unfolding decimal
decimal_most n = decimal_in_most 10 n

pub decimal_least : (n : ℕ) → 1 ≤ length (decimal n)
unfolding decimal
decimal_least n = decimal_in_least 9 n

-- ---- the number comes back

value_snoc : (a d : ℕ) (s : Bytes) → value a (s ++ (d ∷ [])) ≡ value a s * 10 + (d - 48)
unfolding value
value_snoc a d [] = refl
value_snoc a d (x ∷ s) = value_snoc (a * 10 + (x - 48)) d s

back_step : (b : Bool) (n : ℕ) (s : Bytes) → ltb n 10 ≡ b → (10 ≤ n → value 0 s ≡ n / 10) → value 0 (cond b ((n + 48) ∷ []) (s ++ ((n % 10 + 48) ∷ []))) ≡ n
unfolding value
back_step true n s e h = omega arith
back_step false n s e h = value_snoc 0 (n % 10 + 48) s ∙ rw (h (ltb-false n 10 e)) (omega arith)

pub value_decimal_in : (k n : ℕ) → n < 10 ^ k → value 0 (decimal_in k n) ≡ n
unfolding decimal_in value
value_decimal_in zero n h = omega arith
value_decimal_in (suc k) n h = back_step (ltb n 10) n (decimal_in k (n / 10)) refl (λ l. value_decimal_in k (n / 10) (omega (arith, pow-suc 10 k)))

pub value_decimal : (n : ℕ) → n < 10 ^ 10 → value 0 (decimal n) ≡ n
unfolding decimal
value_decimal n h = value_decimal_in 10 n h

pub decimal_one_to_one : (m n : ℕ) → m < 10 ^ 10 → n < 10 ^ 10 → decimal m ≡ decimal n → m ≡ n
decimal_one_to_one m n hm hn e = sym (value_decimal m hm) ∙ ap (value 0) e ∙ value_decimal n hn

-- ---- each byte is a digit, and the first is not `0`

digit_is : (d : ℕ) → 48 ≤ d → d ≤ 57 → within 48 57 d ≡ true
digit_is d l h = and_both _ _ (le-leb 48 d l) (le-leb d 57 h)

every_snoc : (f : ℕ → Bool) (s : Bytes) (d : ℕ) → every f s ≡ true → f d ≡ true → every f (s ++ (d ∷ [])) ≡ true
unfolding every
every_snoc f [] d e h = and_both (f d) true h refl
every_snoc f (x ∷ s) d e h = and_both (f x) _ (and_left (f x) (every f s) e) (every_snoc f s d (and_right (f x) (every f s) e) h)

digits_step : (b : Bool) (n : ℕ) (s : Bytes) → ltb n 10 ≡ b → every (within 48 57) s ≡ true
    → every (within 48 57) (cond b ((n + 48) ∷ []) (s ++ ((n % 10 + 48) ∷ []))) ≡ true
unfolding every
digits_step true n s e h = let l : n < 10 = ltb-true n 10 e in and_both _ true (digit_is (n + 48) (omega arith) (omega arith)) refl
digits_step false n s e h = every_snoc (within 48 57) s (n % 10 + 48) h (digit_is (n % 10 + 48) (omega arith) (omega arith))

pub decimal_in_digits : (k n : ℕ) → every (within 48 57) (decimal_in k n) ≡ true
unfolding decimal_in every
decimal_in_digits zero n = refl
decimal_in_digits (suc k) n = digits_step (ltb n 10) n (decimal_in k (n / 10)) refl (decimal_in_digits k (n / 10))

pub decimal_digits : (n : ℕ) → every (within 48 57) (decimal n) ≡ true
unfolding decimal
decimal_digits n = decimal_in_digits 10 n

first_step : (b : Bool) (n : ℕ) (s : Bytes) → ltb n 10 ≡ b → 1 ≤ n → (10 ≤ n → 1 ≤ length s) → (10 ≤ n → 49 ≤ get_or s 0 0)
    → 49 ≤ get_or (cond b ((n + 48) ∷ []) (s ++ ((n % 10 + 48) ∷ []))) 0 0
first_step true n s e h l g = omega arith
first_step false n s e h l g = let t : 10 ≤ n = ltb-false n 10 e in rw (get_or-append s ((n % 10 + 48) ∷ []) 0 0 (l t)) (g t)

pub decimal_in_first : (k n : ℕ) → 1 ≤ n → n < 10 ^ suc k → 49 ≤ get_or (decimal_in (suc k) n) 0 0
unfolding decimal_in
decimal_in_first zero n l h = first_step (ltb n 10) n [] refl l (λ t. absurd (omega arith)) (λ t. absurd (omega arith))
decimal_in_first (suc k) n l h =
    first_step (ltb n 10) n (decimal_in (suc k) (n / 10)) refl l (λ t. decimal_in_least k (n / 10))
    (λ t. decimal_in_first k (n / 10) (omega arith) (omega (arith, pow-suc 10 (suc k))))

pub decimal_first : (n : ℕ) → 1 ≤ n → n < 10 ^ 10 → 49 ≤ get_or (decimal n) 0 0
unfolding decimal
decimal_first n l h = decimal_in_first 9 n l h

-- ---- the digits come back

next_step : (b : Bool) (k a d : ℕ) → ltb (a * 10 + (d - 48)) 10 ≡ b → 1 ≤ a → 48 ≤ d → d ≤ 57
    → cond b ((a * 10 + (d - 48) + 48) ∷ []) (decimal_in k ((a * 10 + (d - 48)) / 10) ++ (((a * 10 + (d - 48)) % 10 + 48) ∷ [])) ≡ decimal_in k a ++ (d ∷ [])
next_step true k a d e l lo hi = absurd (omega (arith, ltb-true (a * 10 + (d - 48)) 10 e))
next_step false k a d e l lo hi =
    let q : (a * 10 + (d - 48)) / 10 ≡ a = omega arith in
    let r : (a * 10 + (d - 48)) % 10 + 48 ≡ d = omega arith in
    rw (q, r)

-- one digit more behind a number
decimal_next : (k a d : ℕ) → 1 ≤ a → 48 ≤ d → d ≤ 57 → decimal_in (suc k) (a * 10 + (d - 48)) ≡ decimal_in k a ++ (d ∷ [])
unfolding decimal_in
decimal_next k a d l lo hi = next_step (ltb (a * 10 + (d - 48)) 10) k a d refl l lo hi

digit_bounds : (d : ℕ) → within 48 57 d ≡ true → (48 ≤ d) × (d ≤ 57)
digit_bounds d e = (leb-true 48 d (and_left (leb 48 d) (leb d 57) e), leb-true d 57 (and_right (leb 48 d) (leb d 57) e))

-- and as many as there are
decimal_more : (s : Bytes) (k a : ℕ) → 1 ≤ a → every (within 48 57) s ≡ true → decimal_in (length s + k) (value a s) ≡ decimal_in k a ++ s
unfolding every value
decimal_more [] k a l e = rw zero-add (sym (append-nil (decimal_in k a)))
decimal_more (d ∷ s) k a l e =
    let b = digit_bounds d (and_left (within 48 57 d) (every (within 48 57) s) e) in
    let rest = and_right (within 48 57 d) (every (within 48 57) s) e in
    let q : suc (length s) + k ≡ length s + suc k = omega arith in
    rw q (decimal_more s (suc k) (a * 10 + (d - 48)) (omega arith) rest ∙ rw (decimal_next k a d l b.0 b.1) (append_assoc (decimal_in k a) (d ∷ []) s))

-- the first digit is a number
decimal_one : (k d : ℕ) → 48 ≤ d → d ≤ 57 → decimal_in (suc k) (d - 48) ≡ d ∷ []
unfolding decimal_in
decimal_one k d lo hi = let q : d - 48 + 48 ≡ d = omega arith in rw (lt-ltb (d - 48) 10 (omega arith), q)

-- a text of digits with no leading zero is the decimal of its value
pub decimal_value : (s : Bytes) → 1 ≤ length s → length s ≤ 10 → every (within 48 57) s ≡ true → 49 ≤ get_or s 0 0 → decimal (value 0 s) ≡ s
unfolding every value decimal
decimal_value [] l m e f = absurd (omega arith)
decimal_value (d ∷ s) l m e f =
    let b = digit_bounds d (and_left (within 48 57 d) (every (within 48 57) s) e) in
    let rest = and_right (within 48 57 d) (every (within 48 57) s) e in
    let q : 10 ≡ length s + suc (9 - length s) = omega arith in
    let z : 0 * 10 + (d - 48) ≡ d - 48 = omega arith in
    rw (z, q) (decimal_more s (suc (9 - length s)) (d - 48) (omega arith) rest ∙ rw (decimal_one (9 - length s) d b.0 b.1))
