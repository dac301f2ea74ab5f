-- Reasoning by cases: on a test, and entry by entry through two lists. Assumes nothing.
use Prim.Native.Nat.{ℕ, zero, suc}
use mathlib.Core.Path.{◌≡◌, refl}
use mathlib.Core.Bool.{Bool, true, false, cond}
use mathlib.Core.List.{List, [], ◌∷◌, ◌++◌, map}
use native.Mathlib.Omega.{arith}
use lib.ListN.{length, get_or, set}

-- what holds of both branches holds of the choice
pub cond_both : {A : Type 0} (P : A → Type 0) (b : Bool) {x y : A} → P x → P y → P (cond b x y)
cond_both P true p q = p
cond_both P false p q = q

-- the same, with the test remembered
pub cond_cases : {A : Type 0} (P : A → Type 0) (b : Bool) {x y : A} → (b ≡ true → P x) → (b ≡ false → P y) → P (cond b x y)
cond_cases P true p q = p refl
cond_cases P false p q = q refl

-- each entry of a list
pub data All {A : Type 0} (P : A → Type 0) : List A → Type 0 where
  none : All P []
  more : {a : A} {xs : List A} → P a → All P xs → All P (a ∷ xs)

-- each two entries at one place of two lists of one length
pub data All2 {A : Type 0} {B : Type 0} (R : A → B → Type 0) : List A → List B → Type 0 where
  none : All2 R [] []
  more : {a : A} {b : B} {xs : List A} {ys : List B} → R a b → All2 R xs ys → All2 R (a ∷ xs) (b ∷ ys)

pub all_more : {A : Type 0} {P Q : A → Type 0} → ((a : A) → P a → Q a) → {xs : List A} → All P xs → All Q xs
all_more f All.none = All.none
all_more f (All.more p ps) = All.more (f _ p) (all_more f ps)

pub all_append : {A : Type 0} {P : A → Type 0} {xs ys : List A} → All P xs → All P ys → All P (xs ++ ys)
all_append All.none q = q
all_append (All.more p ps) q = All.more p (all_append ps q)

pub all_map : {A : Type 0} {B : Type 0} {P : B → Type 0} (g : A → B) {Q : A → Type 0} → ((a : A) → Q a → P (g a)) → {xs : List A} → All Q xs → All P (map g xs)
all_map g f All.none = All.none
all_map g f (All.more q qs) = All.more (f _ q) (all_map g f qs)

pub all_any : {A : Type 0} {P : A → Type 0} → ((a : A) → P a) → (xs : List A) → All P xs
all_any f [] = All.none
all_any f (x ∷ xs) = All.more (f x) (all_any f xs)

module _ {A : Type 0} (R : A → A → Type 0) (same : (a : A) → R a a) where
  all2_same : (xs : List A) → All2 R xs xs
  all2_same [] = All2.none
  all2_same (x ∷ xs) = All2.more (same x) (all2_same xs)

  pub all2_set : (xs : List A) (i : ℕ) (d y : A) → R (get_or xs i d) y → All2 R xs (set xs i y)
  all2_set [] i d y r = All2.none
  all2_set (x ∷ xs) zero d y r = All2.more r (all2_same xs)
  all2_set (x ∷ xs) (suc i) d y r = All2.more (same x) (all2_set xs i d y r)

pub all2_map : {A : Type 0} (R : A → A → Type 0) (g : A → A) → ((a : A) → R a (g a)) → (xs : List A) → All2 R xs (map g xs)
all2_map R g r [] = All2.none
all2_map R g r (x ∷ xs) = All2.more (r x) (all2_map R g r xs)

pub all2_trans : {A : Type 0} {R S U : A → A → Type 0} → ((a b c : A) → R a b → S b c → U a c) → {xs ys zs : List A} → All2 R xs ys → All2 S ys zs → All2 U xs zs
all2_trans f All2.none All2.none = All2.none
all2_trans f (All2.more r rs) (All2.more s ss) = All2.more (f _ _ _ r s) (all2_trans f rs ss)

pub all2_at : {A : Type 0} {B : Type 0} {R : A → B → Type 0} {xs : List A} {ys : List B} → All2 R xs ys → (i : ℕ) (d : A) (e : B) → R d e → R (get_or xs i d) (get_or ys i e)
all2_at All2.none i d e r = r
all2_at (All2.more q qs) zero d e r = q
all2_at (All2.more q qs) (suc i) d e r = all2_at qs i d e r

-- from two lists of one length, place by place
pub all2_by : {A : Type 0} {B : Type 0} {R : A → B → Type 0} (xs : List A) (ys : List B) (d : A) (e : B) → length xs ≡ length ys → ((i : ℕ) → R (get_or xs i d) (get_or ys i e)) → All2 R xs ys
all2_by [] [] d e l f = All2.none
all2_by [] (y ∷ ys) d e l f = absurd (omega arith)
all2_by (x ∷ xs) [] d e l f = absurd (omega arith)
all2_by (x ∷ xs) (y ∷ ys) d e l f = All2.more (f 0) (all2_by xs ys d e (omega arith) (λ i. f (suc i)))
