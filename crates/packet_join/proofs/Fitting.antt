-- Laws of the test of a list of arguments: there are as many as the shape has, and each is tried against its own rule.
-- Assumes nothing.
use Prim.Native.Nat.{ℕ, suc, ◌+◌, ◌<◌, ◌≤◌}
use mathlib.Core.Path.{◌≡◌, refl, sym, ap, ◌∙◌}
use mathlib.Core.Bool.{Bool, true, false, not, ◌&&◌}
use mathlib.Core.List.{List, [], ◌∷◌}
use native.Mathlib.Numerals.{add-one}
use native.Mathlib.Omega.{arith}
use borrow.Author.Tests.{not-true, not-false}
use Rattle.octets.proofs.Strings.{and_right}
use lib.ListN.{length, get_or, drop, drop_of_length-le}
use lib.Seq.{drop-cons}
use Rattle.std.proofs.lemmas.List.{get_or-map}
use Rattle.std.specs.Borrow.{Bor}
use Rattle.octets.specs.Bytes.{Bytes}
use Rattle.packet.specs.declared.Rule.{Rule}
use Rattle.packet.specs.declared.Rule.TheVariants.{Absent}
use Rattle.packet.specs.Arguments.{fits, fit_all}
use Rattle.packet_join.proofs.Joins.{texts, length_texts}

-- there are as many arguments as rules
fit_length : (rs : List Rule) (as' : List Bytes) → fit_all rs as' ≡ true → length as' ≡ length rs
unfolding fit_all
fit_length [] [] t = refl
fit_length [] (a ∷ as') t = let z : ◌≡◌ {A = ℕ} 0 1 = cc in absurd (omega arith)
fit_length (r ∷ rs) [] t = let z : ◌≡◌ {A = ℕ} 0 1 = cc in absurd (omega arith)
fit_length (r ∷ rs) (a ∷ as') t = ap suc (fit_length rs as' (and_right (fits r a) (fit_all rs as') t))

otherwise : (b : Bool) → (b ≡ true → ⊥) → b ≡ false
otherwise true n = absurd (n refl)
otherwise false n = refl

module _ (rs : List Rule) (xs : List (Bor Bytes)) (n : ℕ) (en : n ≡ length rs) where
  pub fit_other : (length xs ≡ n → ⊥) → false ≡ fit_all rs (texts xs)
  fit_other ne = sym (otherwise _ (λ t. ne (sym (length_texts xs) ∙ fit_length rs (texts xs) t ∙ sym en)))

  module _ (same : length xs ≡ n) (i : ℕ) (left : fit_all rs (texts xs) ≡ fit_all (drop i rs) (drop i (texts xs))) where
    -- all were tried
    pub fit_end : length xs ≤ i → true ≡ fit_all rs (texts xs)
    unfolding fit_all
    fit_end h =
        let r : drop i rs ≡ [] = drop_of_length-le rs {i = i} (omega arith) in
        let q : drop i (texts xs) ≡ [] = drop_of_length-le (texts xs) {i = i} (omega (arith, length_texts xs)) in
        sym (left ∙ rw (r, q))

    -- the one at place i is tried
    module _ (h : i < length xs) (d : Bor Bytes) (p : Rule) (ep : p ≡ get_or rs i Absent) (r : Bool) (er : r ≡ fits p (get_or xs i d).now) where
      fit_step : fit_all rs (texts xs) ≡ r && fit_all (drop (i + 1) rs) (drop (i + 1) (texts xs))
      unfolding fit_all
      fit_step =
          let hr : i < length rs = omega arith in
          let hx : i < length (texts xs) = omega (arith, length_texts xs) in
          left
          ∙ rw (drop-cons rs i Absent hr, drop-cons (texts xs) i [] hx, get_or-map (λ (a : Bor Bytes). a.now) xs i d [] h, ← ep, ← er, add-one i)

      pub fit_not : not r ≡ true → false ≡ fit_all rs (texts xs)
      fit_not f = sym (fit_step ∙ rw (not-true r f))

      pub fit_on : not r ≡ false → fit_all rs (texts xs) ≡ fit_all (drop (i + 1) rs) (drop (i + 1) (texts xs))
      fit_on f = fit_step ∙ rw (not-false r f)
