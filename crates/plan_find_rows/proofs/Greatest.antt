-- The greatest rank of a list, and the lowest place that has it: what one entry more changes, and what a place that is found says.
-- Assumes nothing.
use Prim.Native.Nat.{ℕ, ◌+◌, ◌<◌, ◌≤◌, max}
use mathlib.Core.Path.{◌≡◌, refl, ap, ◌∙◌}
use mathlib.Core.Bool.{Bool, true, false, not, cond, ◌&&◌, ◌||◌}
use Rattle.std.specs.Prelude.{Option, Some}
use mathlib.Core.List.{List, [], ◌∷◌, ◌++◌, map}
use native.Mathlib.Numerals.{add-one}
use native.Mathlib.Omega.{arith}
use borrow.Author.Tests.{ltb-true, ltb-false, lt-ltb, le-ltb, eqb-true, eq-eqb, ne_eqb, eqb-false, not-true}
use lib.ListN.{length, get_or, take}
use lib.Seq.{take-suc, length-take-le}
use lib.Dec.{ltb, eqb}
use Rattle.octets.proofs.Strings.{and_left, and_right}
use Rattle.lists.specs.Lists.{any, up, find}
use Rattle.server.specs.Table.{greatest}
use Rattle.lists.proofs.Searches.{found}

neither : (a b : Bool) → a || b ≡ false → (a ≡ false) × (b ≡ false)
neither true b e = let z : ◌≡◌ {A = ℕ} 0 1 = cc in absurd (omega arith)
neither false b e = (refl, e)

-- one entry more at the end that is not found, unless an earlier one is
found_before : {A : Type 0} (p : A → Bool) (l : List A) (x : A) → (any p l ≡ false → p x ≡ false) → find p (l ++ (x ∷ [])) ≡ find p l
found_before p [] x h = rw (h refl)
found_before p (y ∷ l) x h = go (p y) refl (found_before p l x)
  where
    go : (b : Bool) → p y ≡ b → ((any p l ≡ false → p x ≡ false) → find p (l ++ (x ∷ [])) ≡ find p l)
        → cond b (Some 0) (up (find p (l ++ (x ∷ [])))) ≡ cond b (Some 0) (up (find p l))
    go true e r = refl
    go false e r = ap up (r (λ n. h (rw (e, n))))

module _ {A : Type 0} (f : A → ℕ) where
  abbrev pub top : List A → ℕ
  top l = greatest (map f l)

  -- it has rank m, and m is not 0
  abbrev ranks : ℕ → A → Bool
  ranks m x = not (eqb m 0) && eqb (f x) m

  abbrev pub best : List A → Option ℕ
  best l = find (λ x. not (eqb (top l) 0) && eqb (f x) (top l)) l

  -- the greatest rank is some entry's, or 0
  reached : (m : ℕ) (l : List A) → any (λ x. eqb (f x) m) l ≡ false → m ≡ top l → m ≡ 0
  reached m [] n e = e
  reached m (y ∷ l) n e =
      let (p, q) = neither (eqb (f y) m) (any (λ x. eqb (f x) m) l) n in
      let z : f y ≡ m → ⊥ = eqb-false (f y) m p in
      reached m l q (omega arith)

  -- ---- one entry more at the end

  top_more : (l : List A) (x : A) → top (l ++ (x ∷ [])) ≡ max (top l) (f x)
  top_more [] x = omega arith
  top_more (y ∷ l) x = let r = top_more l x in omega arith

  -- a rank above every other is first found there
  above : (m : ℕ) (l : List A) (x : A) → top l < m → f x ≡ m → find (ranks m) (l ++ (x ∷ [])) ≡ Some (length l)
  above m [] x h e = let z : eqb m 0 ≡ false = ne_eqb m 0 (λ q. omega arith) in rw (z, eq-eqb (f x) m e)
  above m (y ∷ l) x h e =
      let z : eqb m 0 ≡ false = ne_eqb m 0 (λ q. omega arith) in
      let n : eqb (f y) m ≡ false = ne_eqb (f y) m (λ q. omega arith) in
      let r : find (ranks m) (l ++ (x ∷ [])) ≡ Some (length l) = above m l x (omega arith) e in
      rw (n, r) (rw z)

  -- any other is not
  not_above : (m : ℕ) (l : List A) (x : A) → m ≡ top l → any (ranks m) l ≡ false → ranks m x ≡ false
  not_above m l x e = go (eqb m 0) refl
    where
      go : (b : Bool) → eqb m 0 ≡ b → any (λ y. not b && eqb (f y) m) l ≡ false → not b && eqb (f x) m ≡ false
      go true z n = refl
      go false z n = absurd (eqb-false m 0 z (reached m l n e))

  best_more : (l : List A) (x : A) → best (l ++ (x ∷ [])) ≡ cond (ltb (top l) (f x)) (Some (length l)) (best l)
  best_more l x = go (ltb (top l) (f x)) refl
    where
      go : (b : Bool) → ltb (top l) (f x) ≡ b → best (l ++ (x ∷ [])) ≡ cond b (Some (length l)) (best l)
      go true h =
          let g = ltb-true (top l) (f x) h in
          let e : top (l ++ (x ∷ [])) ≡ f x = top_more l x ∙ omega arith in
          ap (λ (m : ℕ). find (ranks m) (l ++ (x ∷ []))) e ∙ above (f x) l x g refl
      go false h =
          let g = ltb-false (top l) (f x) h in
          let e : top (l ++ (x ∷ [])) ≡ top l = top_more l x ∙ omega arith in
          ap (λ (m : ℕ). find (ranks m) (l ++ (x ∷ []))) e ∙ found_before (ranks (top l)) l x (not_above (top l) l x refl)

  -- ---- the next entry of a walk, and the entry that is found

  module _ (l : List A) (i : ℕ) (d : A) (h : i < length l) (m : ℕ) (em : m ≡ top (take i l)) where
    more : take (i + 1) l ≡ take i l ++ (get_or l i d ∷ [])
    more = rw add-one (take-suc l i d h)

    -- it is no better than the best so far
    module _ (g : f (get_or l i d) ≤ m) where
      pub top_kept : m ≡ top (take (i + 1) l)
      top_kept = rw more (omega (arith, top_more (take i l) (get_or l i d)))

      pub best_kept : best (take (i + 1) l) ≡ best (take i l)
      best_kept = rw (more, best_more (take i l) (get_or l i d), le-ltb (top (take i l)) (f (get_or l i d)) (omega arith))

    -- it is better
    module _ (g : m < f (get_or l i d)) where
      pub top_rises : f (get_or l i d) ≡ top (take (i + 1) l)
      top_rises = rw more (omega (arith, top_more (take i l) (get_or l i d)))

      pub best_moves : best (take (i + 1) l) ≡ Some i
      best_moves =
          rw (more, best_more (take i l) (get_or l i d), lt-ltb (top (take i l)) (f (get_or l i d)) (omega arith))
          (ap Some (length-take-le i l (omega arith)))

  -- where there is a best entry, its rank is the greatest, and not 0
  pub best_says : (d : A) (l : List A) (p : ℕ) → best l ≡ Some p → (p < length l) × (f (get_or l p d) ≡ top l) × (top l ≡ 0 → ⊥)
  best_says d l p e =
      let hit = found (ranks (top l)) d l (Some p) e in
      let z : not (eqb (top l) 0) ≡ true = and_left (not (eqb (top l) 0)) _ hit.passes in (
        hit.inside,
        eqb-true _ _ (and_right (not (eqb (top l) 0)) _ hit.passes),
        eqb-false (top l) 0 (not-true (eqb (top l) 0) z),
      )
