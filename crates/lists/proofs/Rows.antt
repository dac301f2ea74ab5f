-- Laws of the list tools that the table rules are written with: tests of all rows and of each two rows, searches, and rows made
-- anew, each against the rows by place. Assumes nothing.
use Prim.Native.Nat.{ℕ, zero, suc, ◌+◌, ◌<◌, zero-le, suc-le-suc}
use mathlib.Core.Path.{◌≡◌, refl, ap, sym, ◌∙◌, subst}
use mathlib.Core.Bool.{Bool, true, false, ◌&&◌, ◌||◌, true≢false}
use mathlib.Core.List.{List, [], ◌∷◌, map}
use native.Mathlib.Nat.{zero-add, le_of_suc-le-suc, not-suc-le-zero}
use native.Mathlib.Decide.{ℕ_discrete}
use native.Mathlib.Omega.{arith}
use lib.ListN.{length, get_or, set, replicate}
use lib.Seq.{get_or-set_same, get_or-set_other}
use Rattle.octets.proofs.Strings.{and_left, and_right, and_both}
use Rattle.lists.specs.Lists.{any, all, pairwise, map_from, numbers, implies}
use Rattle.lists.proofs.Cases.{All2}

-- ---- tests

pub clash : {A : Type 0} {b : Bool} → b ≡ true → b ≡ false → A
clash p q = absurd (true≢false (sym p ∙ q))

pub implies_by : (a b : Bool) → (a ≡ true → b ≡ true) → implies a b ≡ true
implies_by true b f = f refl
implies_by false b f = refl

pub implies_use : (a b : Bool) → implies a b ≡ true → a ≡ true → b ≡ true
implies_use true b e h = e
implies_use false b e h = clash h refl

pub and_swap : (a b : Bool) → a && b ≡ b && a
and_swap true true = refl
and_swap true false = refl
and_swap false true = refl
and_swap false false = refl

pub and_exchange : (a b c d : Bool) → (a && b) && (c && d) ≡ (a && c) && (b && d)
and_exchange true true c d = refl
and_exchange true false true d = refl
and_exchange true false false d = refl
and_exchange false b c d = refl

pub or_off : (b : Bool) → b || false ≡ b
or_off true = refl
or_off false = refl

pub or_left : (a b : Bool) → a ≡ true → a || b ≡ true
or_left true b e = refl
or_left false b e = clash e refl

pub or_right : (a b : Bool) → b ≡ true → a || b ≡ true
or_right true b e = refl
or_right false b e = e

pub or_false : (a b : Bool) → a || b ≡ false → (a ≡ false) × (b ≡ false)
or_false true b e = clash refl e
or_false false b e = (refl, e)

-- two tests that say the same
pub iff : (a b : Bool) → (a ≡ true → b ≡ true) → (b ≡ true → a ≡ true) → a ≡ b
iff true true f g = refl
iff true false f g = sym (f refl)
iff false true f g = g refl
iff false false f g = refl

-- a test that cannot pass
pub never : (a : Bool) → (a ≡ true → ⊥) → a ≡ false
never true f = absurd (f refl)
never false f = refl

-- ---- all rows

module _ {A : Type 0} (p : A → Bool) where
  pub all_at : (l : List A) (i : ℕ) (d : A) → all p l ≡ true → i < length l → p (get_or l i d) ≡ true
  all_at [] i d e h = absurd (not-suc-le-zero h)
  all_at (x ∷ l) zero d e h = and_left (p x) _ e
  all_at (x ∷ l) (suc i) d e h = all_at l i d (and_right (p x) _ e) (le_of_suc-le-suc h)

  -- a row beyond the last is the empty one
  pub all_row : (l : List A) (i : ℕ) (d : A) → all p l ≡ true → p d ≡ true → p (get_or l i d) ≡ true
  all_row [] i d e q = q
  all_row (x ∷ l) zero d e q = and_left (p x) _ e
  all_row (x ∷ l) (suc i) d e q = all_row l i d (and_right (p x) _ e) q

  pub all_by : (l : List A) (d : A) → ((i : ℕ) → i < length l → p (get_or l i d) ≡ true) → all p l ≡ true
  all_by [] d f = refl
  all_by (x ∷ l) d f = and_both (p x) _ (f 0 (suc-le-suc zero-le)) (all_by l d (λ i h. f (suc i) (suc-le-suc h)))

  pub all_set : (l : List A) (i : ℕ) (x : A) → all p l ≡ true → p x ≡ true → all p (set l i x) ≡ true
  all_set [] i x e h = refl
  all_set (y ∷ l) zero x e h = and_both (p x) _ h (and_right (p y) _ e)
  all_set (y ∷ l) (suc i) x e h = and_both (p y) _ (and_left (p y) _ e) (all_set l i x (and_right (p y) _ e) h)

  pub all_replicate : (n : ℕ) (x : A) → p x ≡ true → all p (replicate n x) ≡ true
  all_replicate zero x h = refl
  all_replicate (suc n) x h = and_both (p x) _ h (all_replicate n x h)

pub all_imp : {A : Type 0} (p q : A → Bool) → ((x : A) → p x ≡ true → q x ≡ true) → (l : List A) → all p l ≡ true → all q l ≡ true
all_imp p q f [] e = refl
all_imp p q f (x ∷ l) e = and_both (q x) _ (f x (and_left (p x) _ e)) (all_imp p q f l (and_right (p x) _ e))

pub all_both : {A : Type 0} (p q : A → Bool) (l : List A) → all p l ≡ true → all q l ≡ true → all (λ x. p x && q x) l ≡ true
all_both p q [] e f = refl
all_both p q (x ∷ l) e f =
    and_both (p x && q x) _ (and_both (p x) (q x) (and_left (p x) _ e) (and_left (q x) _ f)) (all_both p q l (and_right (p x) _ e) (and_right (q x) _ f))

pub all_map : {A : Type 0} {B : Type 0} (p : A → Bool) (q : B → Bool) (g : A → B) → ((x : A) → p x ≡ true → q (g x) ≡ true) → (l : List A) → all p l ≡ true → all q (map g l) ≡ true
all_map p q g f [] e = refl
all_map p q g f (x ∷ l) e = and_both (q (g x)) _ (f x (and_left (p x) _ e)) (all_map p q g f l (and_right (p x) _ e))

pub all_made : {A : Type 0} {B : Type 0} (q : B → Bool) (g : A → B) → ((x : A) → q (g x) ≡ true) → (l : List A) → all q (map g l) ≡ true
all_made q g f [] = refl
all_made q g f (x ∷ l) = and_both (q (g x)) _ (f x) (all_made q g f l)

pub all_kept : {A : Type 0} {B : Type 0} {R : A → B → Type 0} (p : A → Bool) (q : B → Bool) → ((a : A) (b : B) → R a b → p a ≡ true → q b ≡ true)
    → {xs : List A} {ys : List B} → All2 R xs ys → all p xs ≡ true → all q ys ≡ true
all_kept p q f All2.none e = refl
all_kept p q f (All2.more {a = a} {b = b} r rs) e = and_both (q b) _ (f a b r (and_left (p a) _ e)) (all_kept p q f rs (and_right (p a) _ e))

-- ---- each two rows

module _ {A : Type 0} (apart : A → A → Bool) where
  pub pairwise_kept : {R : A → A → Type 0} → ((a b x y : A) → R a x → R b y → apart a b ≡ true → apart x y ≡ true)
      → {xs ys : List A} → All2 R xs ys → pairwise apart xs ≡ true → pairwise apart ys ≡ true
  pairwise_kept f All2.none e = refl
  pairwise_kept f (All2.more {a = a} {b = x} {xs = xs} {ys = ys} r rs) e =
      and_both (all (apart x) ys) _ (all_kept (apart a) (apart x) (λ b y s h. f a b x y r s h) rs (and_left (all (apart a) xs) _ e))
      (pairwise_kept f rs (and_right (all (apart a) xs) _ e))

  -- a row anew that is apart from every other
  pub pairwise_set : (l : List A) (i : ℕ) (x : A) → pairwise apart l ≡ true → all (apart x) l ≡ true → all (λ y. apart y x) l ≡ true → pairwise apart (set l i x) ≡ true
  pairwise_set [] i x e f g = refl
  pairwise_set (y ∷ l) zero x e f g = and_both (all (apart x) l) _ (and_right (apart x y) _ f) (and_right (all (apart y) l) _ e)
  pairwise_set (y ∷ l) (suc i) x e f g =
      and_both (all (apart y) (set l i x)) _ (all_set (apart y) l i x (and_left (all (apart y) l) _ e) (and_left (apart y x) _ g))
      (pairwise_set l i x (and_right (all (apart y) l) _ e) (and_right (apart x y) _ f) (and_right (apart y x) _ g))

  pub pairwise_at : (l : List A) (i k : ℕ) (d : A) → pairwise apart l ≡ true → i < k → k < length l → apart (get_or l i d) (get_or l k d) ≡ true
  pairwise_at [] i k d e h g = absurd (not-suc-le-zero g)
  pairwise_at (x ∷ l) i zero d e h g = absurd (not-suc-le-zero h)
  pairwise_at (x ∷ l) zero (suc k) d e h g = all_at (apart x) l k d (and_left (all (apart x) l) _ e) (le_of_suc-le-suc g)
  pairwise_at (x ∷ l) (suc i) (suc k) d e h g = pairwise_at l i k d (and_right (all (apart x) l) _ e) (le_of_suc-le-suc h) (le_of_suc-le-suc g)

-- ---- some row

module _ {A : Type 0} (p : A → Bool) where
  pub any_at : (l : List A) (i : ℕ) (d : A) → i < length l → p (get_or l i d) ≡ true → any p l ≡ true
  any_at [] i d h e = absurd (not-suc-le-zero h)
  any_at (x ∷ l) zero d h e = or_left (p x) _ e
  any_at (x ∷ l) (suc i) d h e = or_right (p x) _ (any_at l i d (le_of_suc-le-suc h) e)

  pub any_imp : (q : A → Bool) → ((x : A) → p x ≡ true → q x ≡ true) → (l : List A) → any p l ≡ true → any q l ≡ true
  any_imp q f [] e = e
  any_imp q f (x ∷ l) e = go (p x) refl e (any_imp q f l)
    where
      go : (b : Bool) → p x ≡ b → b || any p l ≡ true → (any p l ≡ true → any q l ≡ true) → q x || any q l ≡ true
      go true h g r = or_left (q x) _ (f x h)
      go false h g r = or_right (q x) _ (r g)

  -- where it stands
  pub any_where : (l : List A) (d : A) → any p l ≡ true → (i : ℕ) × (i < length l) × (p (get_or l i d) ≡ true)
  any_where [] d e = clash e refl
  any_where (x ∷ l) d e = go (p x) refl e (any_where l d)
    where
      go : (b : Bool) → p x ≡ b → b || any p l ≡ true → (any p l ≡ true → (i : ℕ) × (i < length l) × (p (get_or l i d) ≡ true))
          → (i : ℕ) × (i < suc (length l)) × (p (get_or (x ∷ l) i d) ≡ true)
      go true q f r = (0, suc-le-suc zero-le, q)
      go false q f r = let (i, h, g) = r f in (suc i, suc-le-suc h, g)

-- ---- rows made anew by place

module _ {A : Type 0} {B : Type 0} (f : ℕ → A → B) where
  pub length_map_from : (i : ℕ) (l : List A) → length (map_from f i l) ≡ length l
  length_map_from i [] = refl
  length_map_from i (x ∷ l) = ap suc (length_map_from (suc i) l)

-- a row beyond the last stays the empty one
map_from_row : {A : Type 0} (f : ℕ → A → A) (d : A) → ((i : ℕ) → f i d ≡ d) → (i : ℕ) (l : List A) (k : ℕ) → get_or (map_from f i l) k d ≡ f (i + k) (get_or l k d)
map_from_row f d z i [] k = sym (z (i + k))
map_from_row f d z i (x ∷ l) zero = ap (λ (n : ℕ). f n x) (omega arith)
map_from_row f d z i (x ∷ l) (suc k) = map_from_row f d z (suc i) l k ∙ ap (λ (n : ℕ). f n (get_or l k d)) (omega arith)

pub map_from_at : {A : Type 0} (f : ℕ → A → A) (d : A) → ((i : ℕ) → f i d ≡ d) → (l : List A) (k : ℕ) → get_or (map_from f 0 l) k d ≡ f k (get_or l k d)
map_from_at f d z l k = map_from_row f d z 0 l k ∙ ap (λ (n : ℕ). f n (get_or l k d)) (zero-add k)

pub all2_map_from : {A : Type 0} {B : Type 0} (R : A → B → Type 0) (f : ℕ → A → B) → ((i : ℕ) (a : A) → R a (f i a)) → (i : ℕ) (l : List A) → All2 R l (map_from f i l)
all2_map_from R f r i [] = All2.none
all2_map_from R f r i (x ∷ l) = All2.more (r i x) (all2_map_from R f r (suc i) l)

-- an entry set to the default is the default, inside the list or not; so is each of a list of defaults
-- a place put anew as it is
pub set_own : {A : Type 0} (l : List A) (i : ℕ) (d : A) → set l i (get_or l i d) ≡ l
set_own [] i d = refl
set_own (x ∷ l) zero d = refl
set_own (x ∷ l) (suc i) d = ap (λ (r : List _). x ∷ r) (set_own l i d)

pub set_default : {A : Type 0} (l : List A) (i : ℕ) (d : A) → get_or (set l i d) i d ≡ d
set_default [] i d = refl
set_default (x ∷ l) zero d = refl
set_default (x ∷ l) (suc i) d = set_default l i d

pub replicate_default : {A : Type 0} (n i : ℕ) (d : A) → get_or (replicate n d) i d ≡ d
replicate_default zero i d = refl
replicate_default (suc n) zero d = refl
replicate_default (suc n) (suc i) d = replicate_default n i d

-- a row after a store is the new one or as before
pub row_set : {A : Type 0} (P : A → Type 0) (l : List A) (i : ℕ) (x : A) (k : ℕ) (d : A) → P x → P (get_or l k d) → P (get_or (set l i x) k d)
row_set P [] i x k d p q = q
row_set P (y ∷ l) zero x zero d p q = p
row_set P (y ∷ l) zero x (suc k) d p q = q
row_set P (y ∷ l) (suc i) x zero d p q = q
row_set P (y ∷ l) (suc i) x (suc k) d p q = row_set P l i x k d p q

-- what holds of a row anew at its place, and of each other row at its own, holds at every place
pub each_set : {A : Type 0} (P : ℕ → A → Type 0) (l : List A) (i : ℕ) (x d : A) → i < length l → P i x → ((k : ℕ) → ¬ (k ≡ i) → P k (get_or l k d)) → (k : ℕ) → P k (get_or (set l i x) k d)
each_set P l i x d h p q k = elim (ℕ_discrete k i) [
  | yes e ↦ rw (e, get_or-set_same l i x d h) p
  | no n ↦ rw (get_or-set_other l i k x d n) (q k n)
]

-- ---- numbers in a row

module _ (p : ℕ → Bool) where
  pub numbers_at : (i n k : ℕ) → all p (numbers i n) ≡ true → k < n → p (i + k) ≡ true
  numbers_at i zero k e h = absurd (not-suc-le-zero h)
  numbers_at i (suc n) zero e h = subst (λ (m : ℕ). p m ≡ true) (omega arith) (and_left (p i) _ e)
  numbers_at i (suc n) (suc k) e h = subst (λ (m : ℕ). p m ≡ true) (omega arith) (numbers_at (suc i) n k (and_right (p i) _ e) (le_of_suc-le-suc h))

  pub numbers_by : (i n : ℕ) → ((k : ℕ) → k < n → p (i + k) ≡ true) → all p (numbers i n) ≡ true
  numbers_by i zero f = refl
  numbers_by i (suc n) f =
      and_both (p i) _ (subst (λ (m : ℕ). p m ≡ true) (omega arith) (f 0 (suc-le-suc zero-le)))
      (numbers_by (suc i) n (λ k h. subst (λ (m : ℕ). p m ≡ true) (omega arith) (f (suc k) (suc-le-suc h))))

  -- the numbers below n
  pub below_at : (n k : ℕ) → all p (numbers 0 n) ≡ true → k < n → p k ≡ true
  below_at n k e h = subst (λ (m : ℕ). p m ≡ true) (zero-add k) (numbers_at 0 n k e h)

  pub below_by : (n : ℕ) → ((k : ℕ) → k < n → p k ≡ true) → all p (numbers 0 n) ≡ true
  below_by n f = numbers_by 0 n (λ k h. subst (λ (m : ℕ). p m ≡ true) (sym (zero-add k)) (f k h))
