-- Names in byte order: no name comes before itself, what comes before another comes before all that come after that one, and of two
-- different names one comes before the other. 02, ask 1: "rising byte order". Assumes nothing.
use Prim.Native.Nat.{ℕ, ◌<◌}
use mathlib.Core.Path.{◌≡◌, refl, sym, ◌∙◌}
use mathlib.Core.Logic.{◌⊎◌, inl, inr, ⊎_elim}
use mathlib.Core.Bool.{Bool, true, false, ◌&&◌, ◌||◌}
use mathlib.Core.List.{[], ◌∷◌}
use native.Mathlib.Omega.{arith}
use borrow.Author.Tests.{ltb-true, ltb-false, lt-ltb, le-ltb, eqb-true, eqb-false, eq-eqb, ne_eqb}
use lib.Dec.{ltb, eqb}
use Rattle.octets.specs.Bytes.{Bytes, same}
use Rattle.octets.proofs.Strings.{and_left, and_right}
use Rattle.lists.proofs.Rows.{clash}
use Rattle.command.specs.Order.{before}

-- ---- by the first bytes

module _ (x y : ℕ) (s t : Bytes) where
  pub before_lower : x < y → before (x ∷ s) (y ∷ t) ≡ true
  unfolding before
  before_lower h = rw (lt-ltb x y h)

  pub before_higher : y < x → before (x ∷ s) (y ∷ t) ≡ false
  unfolding before
  before_higher h = rw (le-ltb x y (omega arith), ne_eqb x y (λ e. omega arith))

  pub before_equal : x ≡ y → before (x ∷ s) (y ∷ t) ≡ before s t
  unfolding before
  before_equal e = rw (le-ltb x y (omega arith), eq-eqb x y e)

  -- why the one comes before the other
  pub before_why : before (x ∷ s) (y ∷ t) ≡ true → (x < y) ⊎ ((x ≡ y) × (before s t ≡ true))
  unfolding before
  before_why e = go (ltb x y) refl e
    where
      go : (b : Bool) → ltb x y ≡ b → b || (eqb x y && before s t) ≡ true → (x < y) ⊎ ((x ≡ y) × (before s t ≡ true))
      go true l h = inl (ltb-true x y l)
      go false l h = inr (eqb-true x y (and_left (eqb x y) (before s t) h), and_right (eqb x y) (before s t) h)

-- ---- a strict order

pub before_self : (s : Bytes) → before s s ≡ false
unfolding before
before_self [] = refl
before_self (x ∷ s) = before_equal x x s s refl ∙ before_self s

pub before_chain : (s t u : Bytes) → before s t ≡ true → before t u ≡ true → before s u ≡ true
unfolding before
before_chain s t [] e f = clash f refl
before_chain s [] (z ∷ u) e f = clash e refl
before_chain [] (y ∷ t) (z ∷ u) e f = refl
before_chain (x ∷ s) (y ∷ t) (z ∷ u) e f =
    ⊎_elim
    (λ h. ⊎_elim (λ k. before_lower x z s u (omega arith)) (λ k. before_lower x z s u (omega (arith, k.0))) (before_why y z t u f))
    (λ h. ⊎_elim (λ k. before_lower x z s u (omega (arith, h.0)))
    (λ k. before_equal x z s u (h.0 ∙ k.0) ∙ before_chain s t u h.1 k.1) (before_why y z t u f))
    (before_why x y s t e)

pub before_either : (s t : Bytes) → same s t ≡ false → before s t ≡ false → before t s ≡ true
unfolding before same
before_either [] [] d e = clash refl d
before_either [] (y ∷ t) d e = clash refl e
before_either (x ∷ s) [] d e = refl
before_either (x ∷ s) (y ∷ t) d e = go (ltb x y) (eqb x y) refl refl d e (before_either s t)
  where
    go : (b c : Bool) → ltb x y ≡ b → eqb x y ≡ c → c && same s t ≡ false → b || (c && before s t) ≡ false
        → (same s t ≡ false → before s t ≡ false → before t s ≡ true) → before (y ∷ t) (x ∷ s) ≡ true
    go true c l q g h r = clash refl h
    go false true l q g h r = before_equal y x t s (sym (eqb-true x y q)) ∙ r g h
    go false false l q g h r =
        let n : x ≡ y → ⊥ = eqb-false x y q in
        let m = ltb-false x y l in
        before_lower y x t s (omega arith)

-- not both ways
pub before_one_way : (s t : Bytes) → before s t ≡ true → before t s ≡ false
before_one_way s t e = go (before t s) refl
  where
    go : (b : Bool) → before t s ≡ b → b ≡ false
    go true f = clash (before_chain s t s e f) (before_self s)
    go false f = refl
