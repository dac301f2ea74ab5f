-- Lists made anew entry by entry, and the entries that pass a test. Assumes nothing.
use Prim.Native.Nat.{ℕ, zero, suc}
use mathlib.Core.Path.{◌≡◌, refl, ap, ap₂}
use mathlib.Core.Bool.{Bool, true, false, cond, ◌||◌}
use mathlib.Core.List.{List, [], ◌∷◌, ◌++◌, map}
use lib.ListN.{get_or, set}
use Rattle.lists.specs.Lists.{any, filter}

-- two functions that agree make the same list
pub map_each : {A B : Type 0} (f g : A → B) → ((x : A) → f x ≡ g x) → (l : List A) → map f l ≡ map g l
map_each f g h [] = refl
map_each f g h (x ∷ l) = ap₂ ◌∷◌ (h x) (map_each f g h l)

pub map_set : {A B : Type 0} (f : A → B) (l : List A) (i : ℕ) (x : A) → map f (set l i x) ≡ set (map f l) i (f x)
map_set f [] i x = refl
map_set f (y ∷ l) zero x = refl
map_set f (y ∷ l) (suc i) x = ap (λ (r : List _). f y ∷ r) (map_set f l i x)

pub map_map : {A B C : Type 0} (g : B → C) (f : A → B) (h : A → C) → ((x : A) → g (f x) ≡ h x) → (l : List A) → map g (map f l) ≡ map h l
map_map g f h e [] = refl
map_map g f h e (x ∷ l) = ap₂ ◌∷◌ (e x) (map_map g f h e l)

-- ---- entries that pass a test

pub filter_all : {A : Type 0} (l : List A) → filter (λ x. true) l ≡ l
filter_all [] = refl
filter_all (x ∷ l) = ap (λ (r : List _). x ∷ r) (filter_all l)

filter_step : {A : Type 0} (b : Bool) (x : A) (l r k : List A) → k ≡ l ++ r → cond b (x ∷ k) k ≡ cond b (x ∷ l) l ++ r
filter_step true x l r k e = ap (λ (y : List _). x ∷ y) e
filter_step false x l r k e = e

pub filter_append : {A : Type 0} (p : A → Bool) (l r : List A) → filter p (l ++ r) ≡ filter p l ++ filter p r
filter_append p [] r = refl
filter_append p (x ∷ l) r = filter_step (p x) x (filter p l) (filter p r) _ (filter_append p l r)

-- ---- some entry, among entries made anew and with one put anew

pub any_map : {A B : Type 0} (p : B → Bool) (f : A → B) (l : List A) → any p (map f l) ≡ any (λ x. p (f x)) l
any_map p f [] = refl
any_map p f (x ∷ l) = ap (λ (b : Bool). p (f x) || b) (any_map p f l)

pub any_set_same : {A : Type 0} (f : A → Bool) (l : List A) (i : ℕ) (y d : A) → f y ≡ f (get_or l i d) → any f (set l i y) ≡ any f l
any_set_same f [] i y d e = refl
any_set_same f (x ∷ l) zero y d e = ap (λ (b : Bool). b || any f l) e
any_set_same f (x ∷ l) (suc i) y d e = ap (λ (b : Bool). f x || b) (any_set_same f l i y d e)
