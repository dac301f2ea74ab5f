-- How an array that a loop fills place by place, or the library's `from_fn`, meets its definition. Assumes nothing.
use Prim.Native.Nat.{ℕ, zero, suc, ◌+◌, ◌<◌, ◌≤◌}
use mathlib.Core.Path.{◌≡◌, sym, subst, ◌∙◌}
use mathlib.Core.List.{List}
use native.Mathlib.Nat.{zero-add, add-zero}
use native.Mathlib.Numerals.{add-one}
use native.Mathlib.Omega.{arith}
use denote.Param.Members.{Mut, Called}
use lib.ListN.{length, get_or, set, take}
use lib.Seq.{take_all, take-suc, take-suc-set}
use Rattle.std.specs.Array.{IsFromFnResult, IsFromFnResultFrom}

-- its first i entries are those of the whole
module _ {A : Type 0} (whole l : List A) (i : ℕ) (e : take i l ≡ take i whole) where
  pub fill_turn : (d v : A) → i < length l → i < length whole → v ≡ get_or whole i d → take (i + 1) (set l i v) ≡ take (i + 1) whole
  fill_turn d v h k q = rw (add-one, take-suc-set l i v h, take-suc whole i d k, e, q)

  pub fill_end : length l ≤ i → length whole ≤ i → l ≡ whole
  fill_end h k = sym (take_all i l h) ∙ e ∙ take_all i whole k

-- each call of the closure answers v of its place, and leaves the closure as it was
module _ {F A : Type 0} (g : Mut F (ℕ × Unit {0}) A) (v : ℕ → A) (f : F) (calls : (i : ℕ) (x : A) (q : F) → Called g f (i, tt) x q → (x ≡ v i) × (q ≡ f)) where
  made_from : (l : List A) (i n k : ℕ) (d : A) → IsFromFnResultFrom g f l i n → k < n → v (i + k) ≡ get_or l (i + k) d
  made_from l i zero k d a h = absurd (omega arith)
  made_from l i (suc n) zero d a h = rw add-zero (sym (a.2.1 d ∙ (calls i a.1 a.0 a.3).0))
  made_from l i (suc n) (suc k) d a h =
      let next : i + 1 + k ≡ i + suc k = omega arith in
      rw (← next) (made_from l (i + 1) n k d (subst (λ q. IsFromFnResultFrom g q l (i + 1) n) (calls i a.1 a.0 a.3).1 a.4) (omega arith))

  pub made_at : (l : List A) (n k : ℕ) (d : A) → IsFromFnResult g f l n → k < n → v k ≡ get_or l k d
  made_at l n k d a h = rw zero-add at (made_from l 0 n k d a.each h)
