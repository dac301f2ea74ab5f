-- Searches: two that test alike find alike; one whose test no entry passes finds nothing; a narrower test
-- where one entry alone passes the wider one. Assumes nothing.
use Prim.Native.Nat.{ℕ, zero, suc, ◌+◌, ◌<◌, ◌≤◌, zero-le, suc-le-suc}
use mathlib.Core.Path.{◌≡◌, refl, sym, ap, ap₂, ◌∙◌}
use mathlib.Core.Bool.{Bool, true, false, not, cond, ◌&&◌, ◌||◌}
use Rattle.std.specs.Prelude.{Option, Some, None}
use mathlib.Core.List.{List, [], ◌∷◌, map}
use native.Mathlib.Omega.{arith}
use lib.ListN.{length, get_or}
use Rattle.lists.specs.Lists.{find, numbers, up}

-- ---- alike

-- among numbers, and among what is made of them
find_from : {A : Type 0} (p : ℕ → Bool) (q : A → Bool) (g : ℕ → A) (i n : ℕ) → ((k : ℕ) → i ≤ k → k < i + n → p k ≡ q (g k)) → find p (numbers i n) ≡ find q (map g (numbers i n))
find_from p q g i zero e = refl
find_from p q g i (suc n) e =
    ap₂ (λ (b : Bool) (o : Option ℕ). cond b (Some 0) (up o)) (e i (omega arith) (omega arith)) (find_from p q g (suc i) n (λ k l m. e k (omega arith) (omega arith)))

pub find_numbers : {A : Type 0} (p : ℕ → Bool) (q : A → Bool) (g : ℕ → A) (n : ℕ) → ((k : ℕ) → k < n → p k ≡ q (g k)) → find p (numbers 0 n) ≡ find q (map g (numbers 0 n))
find_numbers p q g n e = find_from p q g 0 n (λ k l m. e k (omega arith))

-- the two lists are made of the same numbers
pub find_places : {A : Type 0} {B : Type 0} (p : A → Bool) (q : B → Bool) (g : ℕ → A) (h : ℕ → B) (n : ℕ) → ((k : ℕ) → k < n → p (g k) ≡ q (h k))
    → find p (map g (numbers 0 n)) ≡ find q (map h (numbers 0 n))
find_places p q g h n e = sym (find_numbers (λ k. p (g k)) p g n (λ k l. refl)) ∙ find_numbers (λ k. p (g k)) q h n e

-- whatever the list
pub find_by : {A : Type 0} (p q : A → Bool) → ((x : A) → p x ≡ q x) → (l : List A) → find p l ≡ find q l
find_by p q e l = λ i. find (λ x. e x i) l

module _ {A : Type 0} (p : A → Bool) (d : A) where
  pub find_same : (q : A → Bool) (l : List A) → ((i : ℕ) → i < length l → p (get_or l i d) ≡ q (get_or l i d)) → find p l ≡ find q l
  find_same q [] e = refl
  find_same q (x ∷ l) e =
      ap₂ (λ (b : Bool) (o : Option ℕ). cond b (Some 0) (up o)) (e 0 (suc-le-suc zero-le)) (find_same q l (λ i h. e (suc i) (suc-le-suc h)))

  pub find_nothing : (l : List A) → ((i : ℕ) → i < length l → p (get_or l i d) ≡ false) → find p l ≡ None
  find_nothing [] e = refl
  find_nothing (x ∷ l) e = rw (e 0 (suc-le-suc zero-le), find_nothing l (λ i h. e (suc i) (suc-le-suc h)))

-- ---- narrower

and_if : (v w : Bool) → (v ≡ true → w ≡ true) → v && w ≡ v
and_if true w h = h refl
and_if false w h = refl

and_never : (v w : Bool) → (v ≡ true → w ≡ false) → v && w ≡ false
and_never true w h = h refl
and_never false w h = refl

-- where the entry at place i alone passes the wider test, it alone is asked
pub find_narrow : {A : Type 0} (f g : A → Bool) (d : A) (l : List A) (i : ℕ) → find f l ≡ Some i → ((k : ℕ) → k < length l → f (get_or l k d) ≡ true → k ≡ i)
    → find (λ x. f x && g x) l ≡ cond (g (get_or l i d)) (Some i) None
find_narrow f g d l i e alone = go (g (get_or l i d)) refl
  where
    asked : (b : Bool) → g (get_or l i d) ≡ b → (k : ℕ) → k < length l → f (get_or l k d) ≡ true → g (get_or l k d) ≡ b
    asked b h k m t = ap (λ (n : ℕ). g (get_or l n d)) (alone k m t) ∙ h

    go : (b : Bool) → g (get_or l i d) ≡ b → find (λ x. f x && g x) l ≡ cond b (Some i) None
    go true h = find_same (λ x. f x && g x) d f l (λ k m. and_if (f (get_or l k d)) (g (get_or l k d)) (asked true h k m)) ∙ e
    go false h = find_nothing (λ x. f x && g x) d l (λ k m. and_never (f (get_or l k d)) (g (get_or l k d)) (asked false h k m))

-- ---- a row skipped: the test `not x && y`, where the code asks for what fails it

pub skipped : (x y : Bool) → x || not y ≡ true → not x && y ≡ false
skipped true y e = refl
skipped false true e = sym e
skipped false false e = refl

pub not_skipped : (x y : Bool) → x || not y ≡ false → not x && y ≡ true
not_skipped true y e = sym e
not_skipped false true e = refl
not_skipped false false e = sym e
