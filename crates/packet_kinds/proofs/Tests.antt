-- A rule of numbers, proved at each number of a run, of a list or of a table by one test that antt computes.
-- A layout gives each number its element. The laws hold for any type of elements and any layout. Assumes nothing.
use Prim.Native.Nat.{ℕ, zero, suc, ◌+◌, ◌-◌, ◌<◌, ◌≤◌, zero-le, suc-le-suc}
use mathlib.Core.Path.{◌≡◌, refl, sym, ap, subst, ◌∙◌}
use mathlib.Core.Bool.{Bool, true, false, not, ◌&&◌, ◌||◌}
use mathlib.Core.List.{List, [], ◌∷◌}
use mathlib.Core.Logic.{◌⊎◌, ⊎_elim, inl, inr}
use native.Mathlib.Nat.{add-suc, add-zero, eq-or-lt_of_le, le_of_suc-le-suc, not-suc-le-zero, suc-add, zero-add}
use native.Mathlib.Omega.{arith}
use lib.Dec.{T, eqb, eqb→eq}
use lib.ListN.{length, get_or, get_or-eq_default}
use mir.Facts.{and_yes, or_yes}
use mir.Val.{has_key}
use types.Run.{OneOf, hit}

-- ---- a test at each number

-- the test passes at each of the n numbers from `low` on
abbrev pub passes : (ℕ → Bool) → ℕ → ℕ → Bool
passes f low zero = true
passes f low (suc n) = f low && passes f (suc low) n

in_run : (f : ℕ → Bool) (low n : ℕ) → T (passes f low n) → (k : ℕ) → low ≤ k → k < low + n → T (f k)
in_run f low zero t k h l = absurd (omega arith)
in_run f low (suc n) t k h l =
    let both = and_yes (f low) (passes f (suc low) n) t in
    ⊎_elim
    (λ e. subst (λ (x : ℕ). T (f x)) e both.0)
    (λ g. in_run f (suc low) n both.1 k g (omega arith))
    (eq-or-lt_of_le h)

-- the test passes at each element of the list
abbrev pub each : {A : Type 0} → (A → Bool) → List A → Bool
each f [] = true
each f (x ∷ xs) = f x && each f xs

-- so it passes at any place, where it passes at the default too
pub at_place : {A : Type 0} (f : A → Bool) (xs : List A) (d : A) → T (f d) → T (each f xs) → (k : ℕ) → T (f (get_or xs k d))
at_place f [] d h t k = h
at_place f (x ∷ xs) d h t zero = (and_yes (f x) (each f xs) t).0
at_place f (x ∷ xs) d h t (suc k) = at_place f xs d h (and_yes (f x) (each f xs) t).1 k

-- and at a number that is one of the list
in_list : (f : ℕ → Bool) (ks : List ℕ) → T (each f ks) → (k : ℕ) → OneOf ks k → T (f k)
in_list f [] t k o = absurd o
in_list f (x ∷ []) t k o = subst (λ (z : ℕ). T (f z)) (sym o) (and_yes (f x) true t).0
in_list f (x ∷ y ∷ ks) t k (inl e) = subst (λ (z : ℕ). T (f z)) (sym e) (and_yes (f x) (each f (y ∷ ks)) t).0
in_list f (x ∷ y ∷ ks) t k (inr o) = in_list f (y ∷ ks) (and_yes (f x) (each f (y ∷ ks)) t).1 k o

-- ---- the arms of a `match`

-- the number is none of the arms' single numbers, which are listed by arm, the last arm first: what a `match` leaves to its ranges
-- and to `_`
abbrev pub Rest : List (List ℕ) → ℕ → Type 0
Rest [] k = Unit {0}
Rest (ks ∷ kss) k = Rest kss k × (OneOf ks k → ⊥)

abbrev pub keyed : List (List ℕ) → ℕ → Bool
keyed [] k = false
keyed (ks ∷ kss) k = has_key ks k || keyed kss k

unkeyed : (kss : List (List ℕ)) (k : ℕ) → Rest kss k → T (keyed kss k) → ⊥
unkeyed [] k r t = t
unkeyed (ks ∷ kss) k r t =
    ⊎_elim (λ h. r.1 (hit ks k h)) (unkeyed kss k r.0) (or_yes (has_key ks k) (keyed kss k) t)

-- a computed test of two elements, whose success says that they are equal
pub record Equality (A : Type 0) : Type 0 where
  pub same : A → A → Bool
  pub tells : (a b : A) → T (same a b) → a ≡ b

abbrev pub numbers : Equality ℕ
numbers = record { same = eqb; tells = eqb→eq }

abbrev pub same_bool : Bool → Bool → Bool
same_bool true b = b
same_bool false b = not b

pub same_bool_lem : (a b : Bool) → T (same_bool a b) → a ≡ b
same_bool_lem true true t = refl
same_bool_lem true false t = absurd t
same_bool_lem false true t = absurd t
same_bool_lem false false t = refl

abbrev pub bools : Equality Bool
bools = record { same = same_bool; tells = same_bool_lem }

module _ {A : Type 0} (eq : Equality A) (layout : ℕ → A) where
  abbrev pub gives : A → ℕ → Bool
  gives a k = eq.same a (layout k)

  abbrev pub gives_rest : List (List ℕ) → A → ℕ → Bool
  gives_rest kss a k = keyed kss k || gives a k

  -- an arm of the single numbers ks. The arm's element a is the one that the goal has
  pub key_arm : {a : A} (ks : List ℕ) → T (each (gives a) ks) → (k : ℕ) → OneOf ks k → a ≡ layout k
  key_arm {a} ks t k o = eq.tells a (layout k) (in_list (gives a) ks t k o)

  -- an arm of a range, or `_` between ranges: the n numbers from `low` on that are no arm's single numbers
  pub range_arm :
      {a : A} (kss : List (List ℕ)) (low n : ℕ) → T (passes (gives_rest kss a) low n) →
      (k : ℕ) → Rest kss k → low ≤ k → k < low + n → a ≡ layout k
  range_arm {a} kss low n t k r h l =
      ⊎_elim
      (λ g. absurd (unkeyed kss k r g))
      (eq.tells a (layout k))
      (or_yes (keyed kss k) (gives a k) (in_run (gives_rest kss a) low n t k h l))

below_or_not : (k n : ℕ) → (k < n) ⊎ (n ≤ k)
below_or_not k zero = inr zero-le
below_or_not zero (suc n) = inl (suc-le-suc zero-le)
below_or_not (suc k) (suc n) = ⊎_elim (λ h. inl (suc-le-suc h)) (λ h. inr (suc-le-suc h)) (below_or_not k n)

-- `_` from `low` on, where the layout is a list: its elements from there, and then its default
pub last_arm :
    {A : Type 0} (eq : Equality A) (xs : List A) (d : A) (kss : List (List ℕ)) (low : ℕ) →
    T (passes (gives_rest eq (λ k. get_or xs k d) kss d) low (length xs - low)) →
    (k : ℕ) → Rest kss k → low ≤ k → d ≡ get_or xs k d
last_arm eq xs d kss low t k r h =
    ⊎_elim
    (λ l. range_arm eq (λ k. get_or xs k d) kss low (length xs - low) t k r h (omega arith))
    (λ l. sym (get_or-eq_default xs d l))
    (below_or_not k (length xs))

-- ---- a table

module _ {A : Type 0} (layout : ℕ → A) where
  -- the layout's elements at the n numbers from `low` on: a written table of them computes to the same list
  abbrev pub tabulated : ℕ → ℕ → List A
  tabulated low zero = []
  tabulated low (suc n) = layout low ∷ tabulated (suc low) n

  entry_from : (low n k : ℕ) (d : A) → k < n → get_or (tabulated low n) k d ≡ layout (low + k)
  entry_from low zero k d h = absurd (not-suc-le-zero h)
  entry_from low (suc n) zero d h = ap layout (sym (add-zero low))
  entry_from low (suc n) (suc k) d h =
      entry_from (suc low) n k d (le_of_suc-le-suc h) ∙ ap layout (suc-add low k ∙ sym (add-suc low k))

  pub entry : (n k : ℕ) (d : A) → k < n → get_or (tabulated 0 n) k d ≡ layout k
  entry n k d h = entry_from 0 n k d h ∙ ap layout (zero-add k)
