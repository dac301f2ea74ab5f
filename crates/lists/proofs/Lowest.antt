-- How a loop that looks for the lowest place where a test holds meets its definition: a search is the search among the entries
-- from i on, with i added to the place that it finds. Assumes nothing.
use Prim.Native.Nat.{ℕ, zero, suc, ◌+◌, ◌<◌, ◌≤◌}
use mathlib.Core.Path.{◌≡◌, refl, ap, sym, ◌∙◌}
use mathlib.Core.Bool.{Bool, true, false}
use Rattle.std.specs.Prelude.{Option, Some, None}
use mathlib.Core.List.{List}
use native.Mathlib.Nat.{add-zero, zero-add}
use native.Mathlib.Numerals.{add-one}
use native.Mathlib.Omega.{arith}
use lib.ListN.{length, get_or, drop, drop_of_length-le}
use lib.Seq.{drop-cons}
use Rattle.lists.specs.Lists.{up, find, numbers}
use Rattle.lists.proofs.Lists.{length_numbers}

-- a place counted from place i
abbrev pub up_by : ℕ → Option ℕ → Option ℕ
up_by i None = None
up_by i (Some k) = Some (i + k)

up_by_zero : (o : Option ℕ) → o ≡ up_by 0 o
up_by_zero None = refl
up_by_zero (Some k) = ap Some (sym (zero-add k))

up_by_up : (i : ℕ) (o : Option ℕ) → up_by i (up o) ≡ up_by (i + 1) o
up_by_up i None = refl
up_by_up i (Some k) = ap Some (omega arith)

module _ {A : Type 0} (p : A → Bool) (l : List A) where
  pub lowest_start : find p l ≡ up_by 0 (find p (drop 0 l))
  lowest_start = up_by_zero (find p l)

  module _ (i : ℕ) (d : A) (e : find p l ≡ up_by i (find p (drop i l))) where
    pub lowest_here : i < length l → p (get_or l i d) ≡ true → Some i ≡ find p l
    lowest_here h t = let s : up_by i (find p (drop i l)) ≡ Some i = rw (drop-cons l i d h, t, add-zero) in sym (e ∙ s)

    pub lowest_on : i < length l → p (get_or l i d) ≡ false → find p l ≡ up_by (i + 1) (find p (drop (i + 1) l))
    lowest_on h f =
        let s : find p (drop i l) ≡ up (find p (drop (i + 1) l)) = rw (drop-cons l i d h, f, add-one) in
        e ∙ ap (up_by i) s ∙ up_by_up i (find p (drop (i + 1) l))

    pub lowest_none : length l ≤ i → None ≡ find p l
    lowest_none h = let s : up_by i (find p (drop i l)) ≡ None = rw (drop_of_length-le l h) in sym (e ∙ s)

-- ---- among the numbers below n

number_is : (i n k : ℕ) → k < n → get_or (numbers i n) k 0 ≡ i + k
number_is i zero k h = absurd (omega arith)
number_is i (suc n) zero h = omega arith
number_is i (suc n) (suc k) h = number_is (suc i) n k (omega arith) ∙ omega arith

module _ (p : ℕ → Bool) (n i : ℕ) (e : find p (numbers 0 n) ≡ up_by i (find p (drop i (numbers 0 n)))) where
  tested : {b : Bool} → i < n → p i ≡ b → p (get_or (numbers 0 n) i 0) ≡ b
  tested h t = rw (number_is 0 n i h, zero-add) t

  pub number_here : i < n → p i ≡ true → Some i ≡ find p (numbers 0 n)
  number_here h t = lowest_here p (numbers 0 n) i 0 e (rw (length_numbers 0 n) h) (tested h t)

  pub number_on : i < n → p i ≡ false → find p (numbers 0 n) ≡ up_by (i + 1) (find p (drop (i + 1) (numbers 0 n)))
  number_on h t = lowest_on p (numbers 0 n) i 0 e (rw (length_numbers 0 n) h) (tested h t)

  pub number_none : n ≤ i → None ≡ find p (numbers 0 n)
  number_none h = lowest_none p (numbers 0 n) i 0 e (rw (length_numbers 0 n) h)
