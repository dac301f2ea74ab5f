-- The known functions listed: one place put in, if it has a name, and all of them from the last to the first. Assumes nothing.
use Prim.Native.Nat.{ℕ, suc, ◌-◌, ◌<◌, ◌≤◌}
use mathlib.Core.Path.{◌≡◌, refl, ap, sym, ◌∙◌}
use mathlib.Core.Bool.{Bool, true, false, not, cond}
use mathlib.Core.List.{List, [], ◌∷◌}
use native.Mathlib.Omega.{arith}
use Rattle.std.proofs.lemmas.Bool.Decides.{nat_tests}
use lib.Dec.{eqb}
use lib.ListN.{length}
use Rattle.octets.specs.Bytes.{Bytes, same}
use Rattle.lists.specs.Lists.{filter, numbers}
use Rattle.server.specs.Table.{Function}
use Rattle.command.specs.Order.{in_order, is_named, name_at, placed, rising}

-- ---- one place, by the length of its name

empty : (x : Bytes) → true ≡ eqb (length x) 0 → not (same x []) ≡ false
unfolding same
empty [] e = refl
empty (y ∷ x) e = absurd (grind (arith, nat_tests))

not_empty : (x : Bytes) → false ≡ eqb (length x) 0 → not (same x []) ≡ true
unfolding same
not_empty [] e = cc
not_empty (y ∷ x) e = refl

module _ (fs : List Function) (q : ℕ) (x : Bytes) (e : x ≡ name_at fs q) (l : List ℕ) where
  pub place_skipped : true ≡ eqb (length x) 0 → l ≡ cond (is_named fs q) (placed fs q l) l
  place_skipped h = let z : is_named fs q ≡ false = rw e at (empty x h) in rw z

  pub place_put : (r : List ℕ) → false ≡ eqb (length x) 0 → r ≡ placed fs q l → r ≡ cond (is_named fs q) (placed fs q l) l
  place_put r n p = let z : is_named fs q ≡ true = rw e at (not_empty x n) in rw z p

-- ---- all places

module _ (fs : List Function) where
  -- the known ones among the n places from q on
  abbrev pub from : ℕ → ℕ → List ℕ
  from q n = rising fs (filter (is_named fs) (numbers q n))

  pub none_yet : (q : ℕ) → [] ≡ from q 0
  unfolding rising
  none_yet q = refl

  one_more : (q n : ℕ) → from q (suc n) ≡ cond (is_named fs q) (placed fs q (from (suc q) n)) (from (suc q) n)
  unfolding rising
  one_more q n = go (is_named fs q)
    where
      go : (b : Bool) → rising fs (cond b (q ∷ filter (is_named fs) (numbers (suc q) n)) (filter (is_named fs) (numbers (suc q) n)))
          ≡ cond b (placed fs q (from (suc q) n)) (from (suc q) n)
      go true = refl
      go false = refl

  module _ (m q : ℕ) (l : List ℕ) (e : l ≡ from q (m - q)) where
    pub list_turn : 0 < q → q ≤ m → (r : List ℕ) → r ≡ cond (is_named fs (q - 1)) (placed fs (q - 1) l) l → r ≡ from (q - 1) (m - (q - 1))
    list_turn h k r g =
        let s : suc (q - 1) ≡ q = omega arith in
        let n : m - (q - 1) ≡ suc (m - q) = omega arith in
        let f : from (suc (q - 1)) (m - q) ≡ l = ap (λ (p : ℕ). from p (m - q)) s ∙ sym e in
        g ∙ sym (ap (from (q - 1)) n ∙ one_more (q - 1) (m - q) ∙ rw f)

    pub list_end : q ≡ 0 → length fs ≡ m → l ≡ in_order fs
    unfolding in_order
    list_end z k = let n : m - q ≡ length fs = omega arith in e ∙ ap (from q) n ∙ ap (λ (p : ℕ). from p (length fs)) z
