-- What the answer of a search for the lowest place says: the entry there passes the test, or none does; and the library's word for that
-- search. Assumes nothing.
use Prim.Native.Nat.{ℕ, suc, ◌+◌, ◌<◌, zero-le, suc-le-suc}
use Prim.Native.Nat.compare
use mathlib.Core.Path.{◌≡◌, refl, subst, ap, ◌∙◌}
use mathlib.Core.Bool.{Bool, true, false, not, cond}
use Rattle.std.specs.Prelude.{Option, Some, None}
use mathlib.Core.List.{List, [], ◌∷◌}
use native.Mathlib.Omega.{arith}
use borrow.Author.Tests.{lt-ltb}
use lib.Dec.{ltb}
use lib.ListN.{length, get_or}
use Rattle.std.specs.List.{position, position_or_len}
use Rattle.lists.specs.Lists.{all, up, find}
use Rattle.lists.proofs.Cases.{cond_cases}

pub record Hit {A : Type 0} (p : A → Bool) (l : List A) (d : A) (i : ℕ) : Type 0 where
  pub passes : p (get_or l i d) ≡ true
  pub inside : i < length l

module _ {A : Type 0} (p : A → Bool) (d : A) where
  -- what a search's answer says
  abbrev pub Found : List A → Option ℕ → Type 0
  Found l None = all (λ x. not (p x)) l ≡ true
  Found l (Some i) = Hit p l d i

  further : (x : A) (l : List A) (o : Option ℕ) → p x ≡ false → Found l o → Found (x ∷ l) (up o)
  further x l None e f = rw e f
  further x l (Some i) e f = record { passes = f.passes; inside = suc-le-suc f.inside }

  search_says : (l : List A) → Found l (find p l)
  search_says [] = refl
  search_says (x ∷ l) = cond_cases (Found (x ∷ l)) (p x) (λ e. record { passes = e; inside = suc-le-suc zero-le }) (λ e. further x l (find p l) e (search_says l))

  pub found : (l : List A) (o : Option ℕ) → find p l ≡ o → Found l o
  found l o e = subst (Found l) e (search_says l)

-- ---- the library's word for a search

position_up : (n m : ℕ) → cond (ltb (1 + n) (suc m)) (Some (1 + n)) None ≡ up (cond (ltb n m) (Some n) None)
position_up n m = let e : 1 + n ≡ suc n = omega arith in rw (e, compare.suc-suc) (go (ltb n m))
  where
    go : (b : Bool) → cond b (Some (suc n)) None ≡ up (cond b (Some n) None)
    go true = refl
    go false = refl

pub position_found : {A : Type 0} (p : A → Bool) (l : List A) → position p l ≡ find p l
position_found p [] = refl
position_found p (x ∷ l) = go (p x) refl (position_found p l)
  where
    go : (b : Bool) → p x ≡ b → position p l ≡ find p l → position p (x ∷ l) ≡ find p (x ∷ l)
    go true e m = let h : ltb 0 (suc (length l)) ≡ true = lt-ltb 0 (suc (length l)) (suc-le-suc zero-le) in rw (e, h)
    go false e m = rw e (position_up (position_or_len p l) (length l) ∙ ap up m)
