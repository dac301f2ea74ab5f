-- Places as they lie, compared byte after byte. Assumes nothing.
use Prim.Native.Nat.{ℕ, zero, suc}
use mathlib.Core.Path.{◌≡◌, refl, ap, ◌∙◌}
use mathlib.Core.Bool.{Bool, ◌&&◌}
use mathlib.Core.List.{[], ◌∷◌}
use native.Mathlib.Omega.{arith}
use lib.ListN.{length, get_or}
use lib.Dec.{eqb}
use Rattle.octets.specs.Bytes.{Bytes, same}
use Rattle.lists.specs.Lists.{all, numbers}
use Rattle.table_texts.specs.Places.{agree}

all_shift : (p : ℕ → Bool) (i n : ℕ) → all p (numbers (suc i) n) ≡ all (λ k. p (suc k)) (numbers i n)
all_shift p i zero = refl
all_shift p i (suc n) = ap (λ (y : Bool). p (suc i) && y) (all_shift p (suc i) n)

-- two places of n bytes that agree in all of them are the same
pub agree_same : (n : ℕ) (s t : Bytes) → length s ≡ n → length t ≡ n → agree n s t ≡ same s t
unfolding agree same
agree_same zero [] [] a b = refl
agree_same zero [] (y ∷ t) a b = absurd (omega arith)
agree_same zero (x ∷ s) t a b = absurd (omega arith)
agree_same (suc n) [] t a b = absurd (omega arith)
agree_same (suc n) (x ∷ s) [] a b = absurd (omega arith)
agree_same (suc n) (x ∷ s) (y ∷ t) a b =
    ap (λ (z : Bool). eqb x y && z) (all_shift (λ k. eqb (get_or (x ∷ s) k 0) (get_or (y ∷ t) k 0)) 0 n ∙ agree_same n s t (omega arith) (omega arith))
