-- An array that a loop fills, entry after entry. Assumes nothing.
use Prim.Native.Nat.{ℕ, ◌+◌, ◌<◌, ◌≤◌}
use mathlib.Core.Path.{◌≡◌, refl, ◌∙◌}
use mathlib.Core.Bool.{Bool, true, false}
use mathlib.Core.List.{List}
use native.Mathlib.Nat.{zero-add}
use native.Mathlib.Omega.{arith}
use borrow.Author.Tests.{eqb-true, eqb-false}
use lib.ListN.{length, get_or, set, length-set}
use lib.Seq.{get_or-set_same, get_or-set_other}
use lib.Dec.{eqb}
use Rattle.table_passes.specs.Arrays.{Twice}

module _ (f : ℕ → ℕ) (l : List ℕ) (i x : ℕ) where
  -- the entries from a on: one more is written
  pub put_after : (a : ℕ) → a + i < length l → x ≡ f i → ((k : ℕ) → k < i → get_or l (a + k) 0 ≡ f k)
      → (k : ℕ) → k < i + 1 → get_or (set l (a + i) x) (a + k) 0 ≡ f k
  put_after a h e g k m = go (eqb k i) refl
    where
      go : (t : Bool) → eqb k i ≡ t → get_or (set l (a + i) x) (a + k) 0 ≡ f k
      go true q = let r : k ≡ i = eqb-true k i q in rw r (get_or-set_same l (a + i) x 0 h ∙ e)
      go false q = let n : k ≡ i → ⊥ = eqb-false k i q in get_or-set_other l (a + i) (a + k) x 0 (λ r. n (omega arith)) ∙ g k (omega arith)

  -- the same from the start on
  pub put_next : i < length l → x ≡ f i → ((k : ℕ) → k < i → get_or l k 0 ≡ f k) → (k : ℕ) → k < i + 1 → get_or (set l i x) k 0 ≡ f k
  put_next h e g k m = simp zero-add at (put_after 0 (simp zero-add h) e (λ k m. simp zero-add (g k m)) k m)

  -- an entry elsewhere is written
  pub put_apart : (a j n : ℕ) → ((k : ℕ) → k < n → a + k ≡ j → ⊥) → ((k : ℕ) → k < n → get_or l (a + k) 0 ≡ f k) → (k : ℕ) → k < n → get_or (set l j x) (a + k) 0 ≡ f k
  put_apart a j n h g k m = get_or-set_other l j (a + k) x 0 (h k m) ∙ g k m

-- ---- values written twice in a row

module _ (n : ℕ) (f : ℕ → ℕ) where
  -- the first i of each run are there
  abbrev pub Written : ℕ → List ℕ → Type 0
  Written i w = (length w ≡ n + n) × ((k : ℕ) → k < i → get_or w k 0 ≡ f k) × ((k : ℕ) → k < i → get_or w (n + k) 0 ≡ f k)

  pub written_more : (i : ℕ) (w : List ℕ) (x : ℕ) → i < n → x ≡ f i → Written i w → Written (i + 1) (set (set w i x) (n + i) x)
  written_more i w x h e (l, t, u) = (
    length-set (set w i x) (n + i) x ∙ length-set w i x ∙ l,
    λ k m. get_or-set_other (set w i x) (n + i) k x 0 (λ r. omega arith) ∙ put_next f w i x (omega arith) e t k m,
    put_after f (set w i x) i x n (omega (arith, length-set w i x)) e (put_apart f w i x n i i (λ k m r. omega arith) u),
  )

  pub written : (i : ℕ) (w : List ℕ) → i ≤ n → n ≤ i → Written i w → Twice n f w
  written i w h g (l, t, u) = (λ k m. t k (omega arith), λ k m. u k (omega arith))
