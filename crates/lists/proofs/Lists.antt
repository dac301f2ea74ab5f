-- Laws of the tools on lists: how many numbers there are, what is made of each, and what a text in its place is. Assumes nothing.
use Prim.Native.Nat.{ℕ, zero, suc, ◌+◌, ◌<◌}
use mathlib.Core.Path.{◌≡◌, refl, ap, ◌∙◌}
use mathlib.Core.List.{List, [], ◌∷◌, ◌++◌, map}
use native.Mathlib.Omega.{arith}
use lib.ListN.{length, get_or, replicate}
use Rattle.octets.specs.Bytes.{Bytes}
use Rattle.lists.specs.Lists.{fit, numbers}

-- one more number, at the end
pub numbers_last : (i n : ℕ) → numbers i (suc n) ≡ numbers i n ++ ((i + n) ∷ [])
numbers_last i zero = let e : i ≡ i + 0 = omega arith in ap (λ (k : ℕ). k ∷ []) e
numbers_last i (suc n) = let e : suc i + n ≡ i + suc n = omega arith in ap (λ (l : List ℕ). i ∷ l) (numbers_last (suc i) n ∙ rw e)

pub length_numbers : (i n : ℕ) → length (numbers i n) ≡ n
length_numbers i zero = refl
length_numbers i (suc n) = ap suc (length_numbers (suc i) n)

pub length_fit : (k : ℕ) (s : Bytes) → length (fit k s) ≡ k
length_fit zero s = refl
length_fit (suc k) [] = ap suc (length_fit k [])
length_fit (suc k) (x ∷ s) = ap suc (length_fit k s)

-- a place without a text
pub fit_none : (k : ℕ) → fit k [] ≡ replicate k 0
fit_none zero = refl
fit_none (suc k) = ap (λ (l : Bytes). 0 ∷ l) (fit_none k)

-- what is made from each of the numbers below n
pub number_made : {A : Type 0} (f : ℕ → A) (d : A) (i n k : ℕ) → k < n → get_or (map f (numbers i n)) k d ≡ f (i + k)
number_made f d i zero k h = absurd (omega arith)
number_made f d i (suc n) zero h = ap f (omega arith)
number_made f d i (suc n) (suc k) h = number_made f d (suc i) n k (omega arith) ∙ ap f (omega arith)
