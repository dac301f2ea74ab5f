-- What is made of each member of a set, in rising order. Assumes nothing.
use Prim.Native.Nat.{ℕ, zero, suc, ◌<◌}
use mathlib.Core.Path.{◌≡◌, refl, ap, ap₂, sym, ◌∙◌}
use mathlib.Core.Bool.{Bool, true, false, cond}
use mathlib.Core.List.{List, [], ◌∷◌, ◌++◌, map, map-append}
use native.Mathlib.Omega.{arith}
use Rattle.sets.specs.Sets.{has, members}

-- two functions that agree on the members make the same list of them
pub map_members : {A : Type 0} (f g : ℕ → A) (n s : ℕ) → ((l : ℕ) → l < n → has s l ≡ true → f l ≡ g l) → map f (members n s) ≡ map g (members n s)
unfolding members
map_members f g zero s h = refl
map_members {A} f g (suc n) s h =
    map-append f (members n s) _ ∙ ap₂ (λ (l r : List A). l ++ r) (map_members f g n s (λ l i m. h l (omega arith) m)) (last (has s n) refl) ∙ sym (map-append g (members n s) _)
  where
    last : (b : Bool) → has s n ≡ b → map f (cond b (n ∷ []) []) ≡ map g (cond b (n ∷ []) [])
    last true e = ap (λ (x : A). x ∷ []) (h n (omega arith) e)
    last false e = refl
