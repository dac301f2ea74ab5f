-- The texts of those places of a list that pass a test, as a loop over the places lays them piece by piece: nothing for a place that does
-- not pass. Assumes nothing.
use Prim.Native.Nat.{ℕ, zero, suc, ◌≤◌}
use mathlib.Core.Path.{◌≡◌, refl, ap, sym, ◌∙◌}
use mathlib.Core.Bool.{Bool, true, false, cond}
use mathlib.Core.List.{List, [], ◌∷◌, ◌++◌, map, append_assoc, append-nil}
use native.Mathlib.Nat.{zero-add}
use native.Mathlib.Omega.{arith}
use lib.ListN.{length, get_or, take}
use lib.Seq.{take-suc}
use Rattle.octets.specs.Bytes.{Bytes}
use Rattle.lists.specs.Lists.{concat, filter, numbers}
use Rattle.lists.proofs.Lists.{numbers_last}
use Rattle.prints.specs.Pieces.{pieces}

module _ (f : ℕ → Bool) (g : ℕ → Bytes) where
  -- the piece of place x
  abbrev pub chosen : ℕ → Bytes
  chosen x = cond (f x) (g x) []

  one_more : (l : List ℕ) (x : ℕ) → concat (map g (filter f (l ++ (x ∷ [])))) ≡ concat (map g (filter f l)) ++ chosen x
  one_more [] x = go (f x)
    where
      go : (b : Bool) → concat (map g (cond b (x ∷ []) [])) ≡ cond b (g x) []
      go true = append-nil (g x)
      go false = refl
  one_more (y ∷ l) x = go (f y) (one_more l x)
    where
      go : (b : Bool) → concat (map g (filter f (l ++ (x ∷ [])))) ≡ concat (map g (filter f l)) ++ chosen x
          → concat (map g (cond b (y ∷ filter f (l ++ (x ∷ []))) (filter f (l ++ (x ∷ []))))) ≡ concat (map g (cond b (y ∷ filter f l) (filter f l))) ++ chosen x
      go true e = ap (λ (s : Bytes). g y ++ s) e ∙ sym (append_assoc (g y) (concat (map g (filter f l))) (chosen x))
      go false e = e

  -- the first n places of a list
  pub chosen_pieces : (l : List ℕ) (n : ℕ) → n ≤ length l → pieces (λ i. chosen (get_or l i 0)) n ≡ concat (map g (filter f (take n l)))
  unfolding pieces
  chosen_pieces l zero h = refl
  chosen_pieces l (suc n) h =
      ap (λ (s : Bytes). s ++ chosen (get_or l n 0)) (chosen_pieces l n (omega arith))
      ∙ sym (ap (λ (r : List ℕ). concat (map g (filter f r))) (take-suc l n 0 (omega arith)) ∙ one_more (take n l) (get_or l n 0))

  -- the numbers below n
  pub chosen_numbers : (n : ℕ) → pieces chosen n ≡ concat (map g (filter f (numbers 0 n)))
  unfolding pieces
  chosen_numbers zero = refl
  chosen_numbers (suc n) =
      ap (λ (s : Bytes). s ++ chosen n) (chosen_numbers n)
      ∙ sym (ap (λ (r : List ℕ). concat (map g (filter f r))) (numbers_last 0 n ∙ ap (λ (k : ℕ). numbers 0 n ++ (k ∷ [])) (zero-add n)) ∙ one_more (numbers 0 n) n)
