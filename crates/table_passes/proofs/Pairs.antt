-- Each two of the numbers below n: how a loop meets them, and how values that stand twice in a row, one after the other, are compared
-- at each distance around. Assumes nothing.
use Prim.Native.Nat.{ℕ, zero, suc, ◌+◌, ◌-◌, ◌<◌, ◌≤◌}
use mathlib.Core.Path.{◌≡◌, refl, sym, ap, ◌∙◌}
use mathlib.Core.Bool.{Bool, true, false, not, ◌&&◌, ◌||◌, true≢false}
use mathlib.Core.List.{List}
use native.Mathlib.Omega.{arith}
use borrow.Author.Tests.{ltb-true, ltb-false, leb-true, leb-false, eqb-true, eq-eqb}
use lib.ListN.{get_or}
use lib.Dec.{eqb, leb, ltb}
use Rattle.octets.proofs.Strings.{and_left, and_right, and_both}
use Rattle.lists.specs.Lists.{all, pairwise, numbers}
use Rattle.table_laws.proofs.Same.{all_true}
use Rattle.lists.proofs.Rows.{below_at, below_by}
use Rattle.table_passes.proofs.Tests.{all_more, and_same}

-- ---- pairs of numbers

module _ (p : ℕ → ℕ → Bool) where
  all_at : (f : ℕ → Bool) (i n k : ℕ) → all f (numbers i n) ≡ true → i ≤ k → k < i + n → f k ≡ true
  all_at f i zero k e h g = absurd (omega arith)
  all_at f i (suc n) k e h g = go (eqb i k) refl (λ l. all_at f (suc i) n k (and_right (f i) _ e) l (omega arith))
    where
      go : (t : Bool) → eqb i k ≡ t → (suc i ≤ k → f k ≡ true) → f k ≡ true
      go true q later = ap f (sym (eqb-true i k q)) ∙ and_left (f i) _ e
      go false q later = later (let r : i ≡ k → ⊥ = λ z. true≢false (sym (eq-eqb i k z) ∙ q) in other r)
        where
          other : (i ≡ k → ⊥) → suc i ≤ k
          other r = omega arith

  pairs_from : (i n x y : ℕ) → pairwise p (numbers i n) ≡ true → i ≤ x → x < y → y < i + n → p x y ≡ true
  pairs_from i zero x y e h l g = absurd (omega arith)
  pairs_from i (suc n) x y e h l g = go (eqb i x) refl (λ m. pairs_from (suc i) n x y (and_right (all (p i) (numbers (suc i) n)) _ e) m l (omega arith))
    where
      go : (t : Bool) → eqb i x ≡ t → (suc i ≤ x → p x y ≡ true) → p x y ≡ true
      go true q later =
          let r : i ≡ x = eqb-true i x q in
          ap (λ (z : ℕ). p z y) (sym r) ∙ all_at (p i) (suc i) n y (and_left (all (p i) (numbers (suc i) n)) _ e) (omega arith) (omega arith)
      go false q later = later (other (λ z. true≢false (sym (eq-eqb i x z) ∙ q)))
        where
          other : (i ≡ x → ⊥) → suc i ≤ x
          other r = omega arith

  pub pairs_at : (n x y : ℕ) → pairwise p (numbers 0 n) ≡ true → x < y → y < n → p x y ≡ true
  pairs_at n x y e h g = pairs_from 0 n x y e (omega arith) h (omega arith)

  pairs_true : (i n : ℕ) → ((x y : ℕ) → x < y → y < i + n → p x y ≡ true) → pairwise p (numbers i n) ≡ true
  pairs_true i zero f = refl
  pairs_true i (suc n) f =
      and_both _ _ (all_true (p i) (suc i) n (λ k h g. f i k (omega arith) (omega arith))) (pairs_true (suc i) n (λ x y h g. f x y h (omega arith)))

  pub pairs_by : (n : ℕ) → ((x y : ℕ) → x < y → y < n → p x y ≡ true) → pairwise p (numbers 0 n) ≡ true
  pairs_by n f = pairs_true 0 n (λ x y h g. f x y h (omega arith))

  each_later : (n i m : ℕ) → i + m ≡ n → pairwise p (numbers i m) ≡ all (λ k. all (p k) (numbers (k + 1) (n - (k + 1)))) (numbers i m)
  each_later n i zero e = refl
  each_later n i (suc m) e =
      let f : suc i ≡ i + 1 = omega arith in
      let g : m ≡ n - (i + 1) = omega arith in
      and_same (ap (λ (x : ℕ). all (p i) (numbers x m)) f ∙ ap (λ (x : ℕ). all (p i) (numbers (i + 1) x)) g) (each_later n (suc i) m (omega arith))

  -- each number and the later ones
  pub pairs_each : (n : ℕ) → all (λ k. all (p k) (numbers (k + 1) (n - (k + 1)))) (numbers 0 n) ≡ pairwise p (numbers 0 n)
  pairs_each n = sym (each_later n 0 n (omega arith))

-- a loop over the numbers from a on
module _ (p : ℕ → Bool) (a n i : ℕ) (ok : Bool) where
  pub later_on : (b : Bool) → ok ≡ all p (numbers a (i - a)) → a ≤ i → b ≡ p i → ok && b ≡ all p (numbers a (i + 1 - a))
  later_on b e h f =
      let k : i + 1 - a ≡ suc (i - a) = omega arith in
      let m : a + (i - a) ≡ i = omega arith in
      rw (k, all_more p a (i - a), m) (and_same e f)

  pub later_end : ok ≡ all p (numbers a (i - a)) → i ≤ n → n ≤ i → ok ≡ all p (numbers a (n - a))
  later_end e h g = let k : i ≡ n = omega arith in rw k at e

-- ---- distances

-- the n values v stand in w twice, one after the other; h is the half of n. A value that is left out is equal to none.
module _ (out : ℕ → Bool) (h n : ℕ) (w : List ℕ) (v : ℕ → ℕ) (half : n ≡ h + h) (first : (k : ℕ) → k < n → get_or w k 0 ≡ v k) (second : (k : ℕ) → k < n → get_or w (n + k) 0 ≡ v k) where
  abbrev pub apart_at : ℕ → ℕ → Bool
  apart_at d i = out (get_or w i 0) || not (eqb (get_or w i 0) (get_or w (i + d) 0))

  -- a test of two places that stand a distance apart
  clash : (i d k : ℕ) → apart_at d i ≡ true → get_or w i 0 ≡ v k → get_or w (i + d) 0 ≡ v k → out (v k) ≡ false → ⊥
  clash i d k t e f o =
      true≢false (sym t ∙ rw (e, f, o, eq-eqb (v k) (v k) refl))

  module _ (t : all (λ d. all (apart_at (d + 1)) (numbers 0 n)) (numbers 0 h) ≡ true) where
    test : (d i : ℕ) → d < h → i < n → apart_at (d + 1) i ≡ true
    test d i g m = below_at (apart_at (d + 1)) n i (below_at (λ d. all (apart_at (d + 1)) (numbers 0 n)) h d t g) m

    near : (i k : ℕ) → i < k → k < n → k - i ≤ h → v i ≡ v k → out (v i) ≡ false → ⊥
    near i k g m d e o =
        let r : i + (k - i - 1 + 1) ≡ k = omega arith in
        clash i (k - i - 1 + 1) i (test (k - i - 1) i (omega arith) (omega arith)) (first i (omega arith)) (ap (λ (x : ℕ). get_or w x 0) r ∙ first k m ∙ sym e) o

    far : (i k : ℕ) → i < k → k < n → h < k - i → v i ≡ v k → out (v i) ≡ false → ⊥
    far i k g m d e o =
        let r : k + (n - (k - i) - 1 + 1) ≡ n + i = omega arith in
        clash k (n - (k - i) - 1 + 1) i (test (n - (k - i) - 1) k (omega arith) m) (first k m ∙ sym e) (ap (λ (x : ℕ). get_or w x 0) r ∙ second i (omega arith)) o

    pub apart_all : (i k : ℕ) → i < k → k < n → out (v i) ≡ false → v i ≡ v k → ⊥
    apart_all i k g m o e = go (leb (k - i) h) refl
      where
        go : (t : Bool) → leb (k - i) h ≡ t → ⊥
        go true f = near i k g m (leb-true (k - i) h f) e o
        go false f = far i k g m (leb-false (k - i) h f) e o

  -- each two values that are not left out differ
  module _ (f : (i k : ℕ) → i < k → k < n → out (v i) ≡ false → v i ≡ v k → ⊥) where
    other : (x y : ℕ) → (out x ≡ false → x ≡ y → ⊥) → out x || not (eqb x y) ≡ true
    other x y g = go (out x) (eqb x y) refl refl
      where
        go : (s t : Bool) → out x ≡ s → eqb x y ≡ t → s || not t ≡ true
        go true t o e = refl
        go false true o e = absurd (g o (eqb-true x y e))
        go false false o e = refl

    at : (d i : ℕ) → d < h → i < n → apart_at (d + 1) i ≡ true
    at d i g m = go (ltb (i + (d + 1)) n) refl
      where
        go : (t : Bool) → ltb (i + (d + 1)) n ≡ t → apart_at (d + 1) i ≡ true
        go true q =
            let l : i + (d + 1) < n = ltb-true (i + (d + 1)) n q in
            rw (first i m, first (i + (d + 1)) l) (other (v i) (v (i + (d + 1))) (λ o e. f i (i + (d + 1)) (omega arith) l o e))
        go false q =
            let l : n ≤ i + (d + 1) = ltb-false (i + (d + 1)) n q in
            let r : i + (d + 1) ≡ n + (i + (d + 1) - n) = omega arith in
            rw (r, first i m, second (i + (d + 1) - n) (omega arith))
            (other (v i) (v (i + (d + 1) - n)) (λ o e. f (i + (d + 1) - n) i (omega arith) m (ap out (sym e) ∙ o) (sym e)))

    pub apart_by : all (λ d. all (apart_at (d + 1)) (numbers 0 n)) (numbers 0 h) ≡ true
    apart_by = below_by (λ d. all (apart_at (d + 1)) (numbers 0 n)) h (λ d g. below_by (apart_at (d + 1)) n (λ i m. at d i g m))
