-- The known functions in rising order of name: each two of them rise, where names are distinct; a place is among them exactly if its
-- function is known; none is there twice; and they are as many as are known. 02, ask 1: "a line a known function in rising byte order
-- of name". Assumes nothing.
use Prim.Native.Nat.{ℕ, zero, suc, ◌+◌, ◌<◌, ◌≤◌}
use mathlib.Core.Path.{◌≡◌, refl, sym, ap, ap₂, ◌∙◌}
use mathlib.Core.Bool.{Bool, true, false, not, cond, ◌&&◌, ◌||◌}
use mathlib.Core.List.{List, [], ◌∷◌}
use native.Mathlib.Nat.{zero-add}
use native.Mathlib.Omega.{arith}
use borrow.Author.Tests.{ltb-true, ltb-false, eqb-true, eqb-false, eq-eqb, ne_eqb, not-true}
use lib.Dec.{ltb, eqb}
use lib.ListN.{length, get_or, get_or-eq_default}
use Rattle.octets.specs.Bytes.{same}
use Rattle.octets.proofs.Strings.{and_false, and_left, and_right, and_both}
use Rattle.lists.specs.Lists.{any, all, pairwise, filter, numbers}
use Rattle.lists.proofs.Rows.{and_exchange, clash, iff, all_imp, pairwise_at}
use Rattle.server.specs.Table.{Function, no_function}
use Rattle.server.specs.Rules.{is_known, names_apart}
use Rattle.command.specs.Order.{before, name_at, placed, rising, is_named, in_order}
use Rattle.command_laws.proofs.Before.{before_chain, before_either}

-- ---- conjunctions and disjunctions in another order

and_swap : (a b c : Bool) → a && (b && c) ≡ b && (a && c)
and_swap true b c = refl
and_swap false b c = sym (and_false b)

or_swap : (a b c : Bool) → a || (b || c) ≡ b || (a || c)
or_swap true true c = refl
or_swap true false c = refl
or_swap false b c = refl

eqb_comm : (a b : ℕ) → eqb a b ≡ eqb b a
eqb_comm a b = iff (eqb a b) (eqb b a) (λ e. eq-eqb b a (sym (eqb-true a b e))) (λ e. eq-eqb a b (sym (eqb-true b a e)))

-- ---- one place put among others

module _ (fs : List Function) where
  -- the name at place p comes before that at place q; the two names differ
  abbrev pub rises : ℕ → ℕ → Bool
  rises p q = before (name_at fs p) (name_at fs q)

  abbrev pub other : ℕ → ℕ → Bool
  other p q = not (same (name_at fs p) (name_at fs q))

  module _ (q : ℕ) where
    placed_all : (f : ℕ → Bool) (ps : List ℕ) → all f (placed fs q ps) ≡ f q && all f ps
    unfolding placed
    placed_all f [] = refl
    placed_all f (p ∷ ps) = go (rises q p) (placed_all f ps)
      where
        go : (b : Bool) → all f (placed fs q ps) ≡ f q && all f ps → all f (cond b (q ∷ p ∷ ps) (p ∷ placed fs q ps)) ≡ f q && (f p && all f ps)
        go true e = refl
        go false e = ap (λ (b : Bool). f p && b) e ∙ and_swap (f p) (f q) (all f ps)

    placed_any : (f : ℕ → Bool) (ps : List ℕ) → any f (placed fs q ps) ≡ f q || any f ps
    unfolding placed
    placed_any f [] = refl
    placed_any f (p ∷ ps) = go (rises q p) (placed_any f ps)
      where
        go : (b : Bool) → any f (placed fs q ps) ≡ f q || any f ps → any f (cond b (q ∷ p ∷ ps) (p ∷ placed fs q ps)) ≡ f q || (f p || any f ps)
        go true e = refl
        go false e = ap (λ (b : Bool). f p || b) e ∙ or_swap (f p) (f q) (any f ps)

    length_placed : (ps : List ℕ) → length (placed fs q ps) ≡ suc (length ps)
    unfolding placed
    length_placed [] = refl
    length_placed (p ∷ ps) = go (rises q p) (length_placed ps)
      where
        go : (b : Bool) → length (placed fs q ps) ≡ suc (length ps) → length (cond b (q ∷ p ∷ ps) (p ∷ placed fs q ps)) ≡ suc (suc (length ps))
        go true e = refl
        go false e = ap suc e

    -- a test of each two that asks both the same
    placed_pairwise : (r : ℕ → ℕ → Bool) → ((a b : ℕ) → r a b ≡ r b a) → (ps : List ℕ) → pairwise r (placed fs q ps) ≡ all (r q) ps && pairwise r ps
    unfolding placed
    placed_pairwise r s [] = refl
    placed_pairwise r s (p ∷ ps) = go (rises q p) (placed_pairwise r s ps)
      where
        go : (b : Bool) → pairwise r (placed fs q ps) ≡ all (r q) ps && pairwise r ps
            → pairwise r (cond b (q ∷ p ∷ ps) (p ∷ placed fs q ps)) ≡ (r q p && all (r q) ps) && (all (r p) ps && pairwise r ps)
        go true e = refl
        go false e =
            ap₂ (λ (x y : Bool). x && y) (placed_all (r p) ps ∙ ap (λ (b : Bool). b && all (r p) ps) (s p q)) e
            ∙ and_exchange (r q p) (all (r p) ps) (all (r q) ps) (pairwise r ps)

    -- names that rise do so with one more among them
    placed_rises : (ps : List ℕ) → all (other q) ps ≡ true → pairwise rises ps ≡ true → pairwise rises (placed fs q ps) ≡ true
    unfolding placed
    placed_rises [] d e = refl
    placed_rises (p ∷ ps) d e = go (rises q p) refl (placed_rises ps (and_right (other q p) _ d) (and_right (all (rises p) ps) _ e))
      where
        go : (b : Bool) → rises q p ≡ b → pairwise rises (placed fs q ps) ≡ true → pairwise rises (cond b (q ∷ p ∷ ps) (p ∷ placed fs q ps)) ≡ true
        go true h r =
            and_both (rises q p && all (rises q) ps) _
            (and_both (rises q p) _ h (all_imp (rises p) (rises q) (λ x k. before_chain (name_at fs q) (name_at fs p) (name_at fs x) h k) ps (and_left (all (rises p) ps) _ e)))
            e
        go false h r =
            and_both (all (rises p) (placed fs q ps)) _
            (placed_all (rises p) ps
            ∙ and_both (rises p q) _ (before_either (name_at fs q) (name_at fs p) (not-true _ (and_left (other q p) _ d)) h) (and_left (all (rises p) ps) _ e))
            r

  -- ---- all places

  rising_all : (f : ℕ → Bool) (qs : List ℕ) → all f (rising fs qs) ≡ all f qs
  unfolding rising
  rising_all f [] = refl
  rising_all f (q ∷ qs) = placed_all q f (rising fs qs) ∙ ap (λ (b : Bool). f q && b) (rising_all f qs)

  rising_any : (f : ℕ → Bool) (qs : List ℕ) → any f (rising fs qs) ≡ any f qs
  unfolding rising
  rising_any f [] = refl
  rising_any f (q ∷ qs) = placed_any q f (rising fs qs) ∙ ap (λ (b : Bool). f q || b) (rising_any f qs)

  length_rising : (qs : List ℕ) → length (rising fs qs) ≡ length qs
  unfolding rising
  length_rising [] = refl
  length_rising (q ∷ qs) = length_placed q (rising fs qs) ∙ ap suc (length_rising qs)

  rising_pairwise : (r : ℕ → ℕ → Bool) → ((a b : ℕ) → r a b ≡ r b a) → (qs : List ℕ) → pairwise r (rising fs qs) ≡ pairwise r qs
  unfolding rising
  rising_pairwise r s [] = refl
  rising_pairwise r s (q ∷ qs) =
      placed_pairwise q r s (rising fs qs) ∙ ap₂ (λ (x y : Bool). x && y) (rising_all (r q) qs) (rising_pairwise r s qs)

  rising_rises : (qs : List ℕ) → pairwise other qs ≡ true → pairwise rises (rising fs qs) ≡ true
  unfolding rising
  rising_rises [] e = refl
  rising_rises (q ∷ qs) e =
      placed_rises q (rising fs qs) (rising_all (other q) qs ∙ and_left (all (other q) qs) _ e) (rising_rises qs (and_right (all (other q) qs) _ e))

-- ---- numbers that pass a test

module _ (f : ℕ → Bool) where
  passing_all : (g : ℕ → Bool) (i n : ℕ) → ((b : ℕ) → i ≤ b → b < i + n → f b ≡ true → g b ≡ true) → all g (filter f (numbers i n)) ≡ true
  passing_all g i zero h = refl
  passing_all g i (suc n) h = go (f i) refl (passing_all g (suc i) n (λ b l m. h b (omega arith) (omega arith)))
    where
      go : (b : Bool) → f i ≡ b → all g (filter f (numbers (suc i) n)) ≡ true → all g (cond b (i ∷ filter f (numbers (suc i) n)) (filter f (numbers (suc i) n))) ≡ true
      go true e r = and_both (g i) _ (h i (omega arith) (omega arith) e) r
      go false e r = r

  passing_pairwise : (r : ℕ → ℕ → Bool) (i n : ℕ) → ((a b : ℕ) → i ≤ a → a < b → b < i + n → f a ≡ true → f b ≡ true → r a b ≡ true)
      → pairwise r (filter f (numbers i n)) ≡ true
  passing_pairwise r i zero h = refl
  passing_pairwise r i (suc n) h = go (f i) refl (passing_pairwise r (suc i) n (λ a b l m k. h a b (omega arith) m (omega arith)))
    where
      go : (b : Bool) → f i ≡ b → pairwise r (filter f (numbers (suc i) n)) ≡ true
          → pairwise r (cond b (i ∷ filter f (numbers (suc i) n)) (filter f (numbers (suc i) n))) ≡ true
      go true e p =
          and_both (all (r i) (filter f (numbers (suc i) n))) _
          (passing_all (r i) (suc i) n (λ b l m. h i b (omega arith) (omega arith) (omega arith) e)) p
      go false e p = p

  -- a number is among those that pass exactly if it passes and is among all
  passing_any : (q : ℕ) (l : List ℕ) → any (eqb q) (filter f l) ≡ f q && any (eqb q) l
  passing_any q [] = sym (and_false (f q))
  passing_any q (x ∷ l) = go (f x) (eqb q x) refl refl (passing_any q l)
    where
      here : (b : Bool) → f x ≡ b → eqb q x ≡ true → f q ≡ b
      here b e d = ap f (eqb-true q x d) ∙ e

      go : (b c : Bool) → f x ≡ b → eqb q x ≡ c → any (eqb q) (filter f l) ≡ f q && any (eqb q) l
          → any (eqb q) (cond b (x ∷ filter f l) (filter f l)) ≡ f q && (c || any (eqb q) l)
      go true true e d r = rw (d, here true e d)
      go true false e d r = rw d r
      go false true e d r = r ∙ rw (here false e d)
      go false false e d r = r

among : (q i n : ℕ) → i ≤ q → q < i + n → any (eqb q) (numbers i n) ≡ true
among q i zero l h = absurd (omega arith)
among q i (suc n) l h = go (eqb q i) refl (λ k. among q (suc i) n k (omega arith))
  where
    go : (b : Bool) → eqb q i ≡ b → (suc i ≤ q → any (eqb q) (numbers (suc i) n) ≡ true) → b || any (eqb q) (numbers (suc i) n) ≡ true
    go true e r = refl
    go false e r = let d : q ≡ i → ⊥ = eqb-false q i e in r (omega arith)

-- as many numbers pass as entries of the list that they are the places of
passing_count : {A : Type 0} (g : A → Bool) (d : A) (f : ℕ → Bool) (i : ℕ) (l : List A) → ((k : ℕ) → k < length l → f (i + k) ≡ g (get_or l k d))
    → length (filter f (numbers i (length l))) ≡ length (filter g l)
passing_count g d f i [] h = refl
passing_count g d f i (x ∷ l) h =
    go (f i) (g x) (ap f (omega arith) ∙ h 0 (omega arith)) (passing_count g d f (suc i) l (λ k m. ap f (omega arith) ∙ h (suc k) (omega arith)))
  where
    go : (b c : Bool) → b ≡ c → length (filter f (numbers (suc i) (length l))) ≡ length (filter g l)
        → length (cond b (i ∷ filter f (numbers (suc i) (length l))) (filter f (numbers (suc i) (length l)))) ≡ length (cond c (x ∷ filter g l) (filter g l))
    go true true e r = ap suc r
    go true false e r = clash refl e
    go false true e r = clash e refl
    go false false e r = r

-- ---- the known functions

module _ (fs : List Function) where
  -- a place beyond the last has no function
  named_inside : (q : ℕ) → is_named fs q ≡ true → q < length fs
  unfolding same
  named_inside q e = go (ltb q (length fs)) refl
    where
      go : (b : Bool) → ltb q (length fs) ≡ b → q < length fs
      go true h = ltb-true q (length fs) h
      go false h =
          let z : is_named fs q ≡ false = ap is_known (get_or-eq_default fs no_function (ltb-false q (length fs) h)) in
          clash e z

  -- a place is listed exactly if its function is known
  pub listed_known : (q : ℕ) → any (eqb q) (in_order fs) ≡ is_named fs q
  unfolding in_order
  listed_known q =
      rising_any fs (eqb q) (filter (is_named fs) (numbers 0 (length fs))) ∙ passing_any (is_named fs) q (numbers 0 (length fs)) ∙ go (is_named fs q) refl
    where
      go : (b : Bool) → is_named fs q ≡ b → b && any (eqb q) (numbers 0 (length fs)) ≡ b
      go true e = among q 0 (length fs) (omega arith) (omega (arith, named_inside q e))
      go false e = refl

  -- none is listed twice
  pub listed_once : pairwise (λ p q. not (eqb p q)) (in_order fs) ≡ true
  unfolding in_order
  listed_once =
      rising_pairwise fs (λ p q. not (eqb p q)) (λ a b. ap not (eqb_comm a b)) (filter (is_named fs) (numbers 0 (length fs)))
      ∙ passing_pairwise (is_named fs) (λ p q. not (eqb p q)) 0 (length fs) (λ a b l m k u v. ap not (ne_eqb a b (λ e. omega arith)))

  -- they are as many as are known
  pub listed_all : length (in_order fs) ≡ length (filter is_known fs)
  unfolding in_order
  listed_all =
      length_rising fs (filter (is_named fs) (numbers 0 (length fs)))
      ∙ passing_count is_known no_function (is_named fs) 0 fs (λ k h. ap (is_named fs) (zero-add k))

  -- each two of them rise
  pub listed_rises : pairwise names_apart fs ≡ true → pairwise (rises fs) (in_order fs) ≡ true
  unfolding in_order
  listed_rises e =
      rising_rises fs (filter (is_named fs) (numbers 0 (length fs)))
      (passing_pairwise (is_named fs) (other fs) 0 (length fs) (λ a b l m k u v. apart a b u (pairwise_at names_apart fs a b no_function e m (omega arith))))
    where
      apart : (a b : ℕ) → is_named fs a ≡ true → names_apart (get_or fs a no_function) (get_or fs b no_function) ≡ true → other fs a b ≡ true
      apart a b u h = rw u at h
