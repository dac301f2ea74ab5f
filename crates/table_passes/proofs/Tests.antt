-- Tests of the numbers below n: how a loop that keeps a flag meets them, and what they say of one number. Assumes nothing.
use Prim.Native.Nat.{ℕ, zero, suc, ◌+◌, ◌-◌, ◌*◌, ◌<◌, ◌≤◌}
use mathlib.Core.Path.{◌≡◌, refl, sym, ap, ap₂, subst, ◌∙◌}
use mathlib.Core.Bool.{Bool, true, false, ◌&&◌, ◌||◌, true≢false}
use mathlib.Core.List.{List, [], ◌∷◌, ◌++◌}
use native.Mathlib.Nat.{add-zero, add-suc, suc-add, zero-add, mul-zero, mul-suc}
use native.Mathlib.Numerals.{add-one}
use native.Mathlib.Omega.{arith}
use borrow.Author.Tests.{ltb-true, ltb-false, eqb-true, eqb-false, ne_eqb}
use lib.Bits.{bit_or, or_add_and, and_le_r, or_zero_l}
use lib.Dec.{eqb, ltb}
use Rattle.octets.proofs.Strings.{and_left, and_right}
use Rattle.lists.specs.Lists.{any, all, numbers}
use Rattle.lists.proofs.Rows.{and_exchange}
use Rattle.table_laws.proofs.Same.{and_assoc, all_same}

-- ---- tests together

pub and_true : (a : Bool) → a && true ≡ a
and_true true = refl
and_true false = refl

or_assoc : (a b c : Bool) → (a || b) || c ≡ a || (b || c)
or_assoc true b c = refl
or_assoc false b c = refl

or_false : (a : Bool) → a || false ≡ a
or_false true = refl
or_false false = refl

pub or_left : (a b : Bool) → a ≡ true → a || b ≡ true
or_left true b e = refl
or_left false b e = absurd (true≢false (sym e))

pub or_right : (a b : Bool) → b ≡ true → a || b ≡ true
or_right true b e = refl
or_right false b e = e

pub or_not : (a b : Bool) → a || b ≡ true → a ≡ false → b ≡ true
or_not true b e f = absurd (true≢false f)
or_not false b e f = e

-- one of two tests holds
pub or_cases : {C : Type 0} (a b : Bool) → a || b ≡ true → (a ≡ true → C) → (b ≡ true → C) → C
or_cases true b e f g = f refl
or_cases false b e f g = g e

-- two tests that hold in the same cases
pub iff : (x y : Bool) → (x ≡ true → y ≡ true) → (y ≡ true → x ≡ true) → x ≡ y
iff true true f g = refl
iff true false f g = sym (f refl)
iff false true f g = g refl
iff false false f g = refl

pub split : {a b : Bool} → a && b ≡ true → (a ≡ true) × (b ≡ true)
split {a} {b} e = (and_left a b e, and_right a b e)

pub and_same : {a b c d : Bool} → a ≡ c → b ≡ d → a && b ≡ c && d
and_same e f = ap₂ ◌&&◌ e f

-- where the first test fails, so do both
pub and_fails : {a : Bool} (b : Bool) → false ≡ a → false ≡ a && b
and_fails b e = ap (λ (x : Bool). x && b) e

-- ---- one number more

module _ (p : ℕ → Bool) where
  pub all_more : (i n : ℕ) → all p (numbers i (suc n)) ≡ all p (numbers i n) && p (i + n)
  all_more i zero = and_true (p i) ∙ ap p (sym (add-zero i))
  all_more i (suc n) =
      ap (λ (x : Bool). p i && x) (all_more (suc i) n ∙ ap (λ (k : ℕ). all p (numbers (suc i) n) && p k) (suc-add i n ∙ sym (add-suc i n)))
      ∙ sym (and_assoc (p i) (all p (numbers (suc i) n)) (p (i + suc n)))

  any_more : (i n : ℕ) → any p (numbers i (suc n)) ≡ any p (numbers i n) || p (i + n)
  any_more i zero = or_false (p i) ∙ ap p (sym (add-zero i))
  any_more i (suc n) =
      ap (λ (x : Bool). p i || x) (any_more (suc i) n ∙ ap (λ (k : ℕ). any p (numbers (suc i) n) || p k) (suc-add i n ∙ sym (add-suc i n)))
      ∙ sym (or_assoc (p i) (any p (numbers (suc i) n)) (p (i + suc n)))

  pub all_next : (n : ℕ) → all p (numbers 0 (n + 1)) ≡ all p (numbers 0 n) && p n
  all_next n = ap (λ (k : ℕ). all p (numbers 0 k)) (add-one n) ∙ all_more 0 n ∙ ap (λ (k : ℕ). all p (numbers 0 n) && p k) (zero-add n)

  pub any_next : (n : ℕ) → any p (numbers 0 (n + 1)) ≡ any p (numbers 0 n) || p n
  any_next n = ap (λ (k : ℕ). any p (numbers 0 k)) (add-one n) ∙ any_more 0 n ∙ ap (λ (k : ℕ). any p (numbers 0 n) || p k) (zero-add n)

-- a loop that keeps a flag: it says what the numbers passed say
module _ (p : ℕ → Bool) (n i : ℕ) (ok : Bool) where
  pub each_on : (b : Bool) → ok ≡ all p (numbers 0 i) → b ≡ p i → ok && b ≡ all p (numbers 0 (i + 1))
  each_on b e f = and_same e f ∙ sym (all_next p i)

  pub each_end : ok ≡ all p (numbers 0 i) → i ≤ n → n ≤ i → ok ≡ all p (numbers 0 n)
  each_end e h g = let k : i ≡ n = omega arith in rw k at e

-- ---- bytes gathered

-- two bytes are zero together
pub or_none_lem : (x y : ℕ) → eqb (bit_or x y) 0 ≡ eqb x 0 && eqb y 0
or_none_lem x y = go (eqb x 0) (eqb y 0) refl refl
  where
    go : (s t : Bool) → eqb x 0 ≡ s → eqb y 0 ≡ t → eqb (bit_or x y) 0 ≡ s && t
    go true true p q = let e : x ≡ 0 = eqb-true x 0 p in let f : y ≡ 0 = eqb-true y 0 q in rw (e, f)
    go true false p q = let e : x ≡ 0 = eqb-true x 0 p in rw (e, or_zero_l y) q
    go false t p q =
        let n : x ≡ 0 → ⊥ = eqb-false x 0 p in
        ne_eqb (bit_or x y) 0 (λ z. n (omega (arith, or_add_and x y, and_le_r x y)))

-- a loop that gathers bytes: what it found is zero exactly if all bytes passed are
pub none_on : (p : ℕ → Bool) (i found x : ℕ) → eqb found 0 ≡ all p (numbers 0 i) → eqb x 0 ≡ p i → eqb (bit_or found x) 0 ≡ all p (numbers 0 (i + 1))
none_on p i found x e f = or_none_lem found x ∙ and_same e f ∙ sym (all_next p i)

-- ---- one number of them

module _ (p : ℕ → Bool) where
  some_from : (C : Type 0) (i n : ℕ) → any p (numbers i n) ≡ true → ((k : ℕ) → i ≤ k → k < i + n → p k ≡ true → C) → C
  some_from C i zero e f = absurd (true≢false (sym e))
  some_from C i (suc n) e f = go (p i) refl (λ q. some_from C (suc i) n (or_not (p i) _ e q) (λ k h g r. f k (omega arith) (omega arith) r))
    where
      go : (t : Bool) → p i ≡ t → (p i ≡ false → C) → C
      go true q later = f i (omega arith) (omega arith) q
      go false q later = later q

  -- some number passes
  pub some_at : {C : Type 0} (n : ℕ) → any p (numbers 0 n) ≡ true → ((k : ℕ) → k < n → p k ≡ true → C) → C
  some_at {C} n e f = some_from C 0 n e (λ k _ h r. f k (omega arith) r)

  some_in : (i n k : ℕ) → k < n → p (i + k) ≡ true → any p (numbers i n) ≡ true
  some_in i zero k h e = absurd (omega arith)
  some_in i (suc n) zero h e = or_left (p i) _ (subst (λ (m : ℕ). p m ≡ true) (omega arith) e)
  some_in i (suc n) (suc k) h e = or_right (p i) _ (some_in (suc i) n k (omega arith) (subst (λ (m : ℕ). p m ≡ true) (omega arith) e))

  pub some_by : (n k : ℕ) → k < n → p k ≡ true → any p (numbers 0 n) ≡ true
  some_by n k h e = some_in 0 n k h (subst (λ (m : ℕ). p m ≡ true) (sym (zero-add k)) e)

-- ---- tests that agree, and two tests in one

module _ (p q : ℕ → Bool) (n : ℕ) where
  pub same_below : ((k : ℕ) → k < n → p k ≡ q k) → all p (numbers 0 n) ≡ all q (numbers 0 n)
  same_below f = all_same p q 0 n (λ k _ h. f k (omega arith))

  any_alike : (i m : ℕ) → ((k : ℕ) → i ≤ k → k < i + m → p k ≡ q k) → any p (numbers i m) ≡ any q (numbers i m)
  any_alike i zero f = refl
  any_alike i (suc m) f = ap₂ ◌||◌ (f i (omega arith) (omega arith)) (any_alike (suc i) m (λ k h g. f k (omega arith) (omega arith)))

  pub any_below : ((k : ℕ) → k < n → p k ≡ q k) → any p (numbers 0 n) ≡ any q (numbers 0 n)
  any_below f = any_alike 0 n (λ k _ h. f k (omega arith))

pub all_and : {A : Type 0} (p q : A → Bool) (l : List A) → all (λ x. p x && q x) l ≡ all p l && all q l
all_and p q [] = refl
all_and p q (x ∷ l) = ap (λ (z : Bool). (p x && q x) && z) (all_and p q l) ∙ and_exchange (p x) (q x) (all p l) (all q l)

or_swap : (a b c d : Bool) → (a || b) || (c || d) ≡ (a || c) || (b || d)
or_swap true b c d = refl
or_swap false true true d = refl
or_swap false true false d = refl
or_swap false false c d = refl

pub any_or : {A : Type 0} (p q : A → Bool) (l : List A) → any p l || any q l ≡ any (λ x. p x || q x) l
any_or p q [] = refl
any_or p q (x ∷ l) = or_swap (p x) (any p l) (q x) (any q l) ∙ ap (λ (z : Bool). (p x || q x) || z) (any_or p q l)

-- ---- runs

pub all_append : (p : ℕ → Bool) (s t : List ℕ) → all p (s ++ t) ≡ all p s && all p t
all_append p [] t = refl
all_append p (x ∷ s) t = ap (λ (y : Bool). p x && y) (all_append p s t) ∙ sym (and_assoc (p x) (all p s) (all p t))

-- the test of a later run, from its own start
pub all_shift : (p : ℕ → Bool) (d i n : ℕ) → all p (numbers (d + i) n) ≡ all (λ k. p (d + k)) (numbers i n)
all_shift p d i zero = refl
all_shift p d i (suc n) = ap (λ (x : Bool). p (d + i) && x) (ap (λ (k : ℕ). all p (numbers k n)) (sym (add-suc d i)) ∙ all_shift p d (suc i) n)

all_add : (p : ℕ → Bool) (i m n : ℕ) → all p (numbers i (m + n)) ≡ all p (numbers i m) && all p (numbers (i + m) n)
all_add p i zero n = ap₂ (λ (j k : ℕ). all p (numbers j k)) (sym (add-zero i)) (zero-add n)
all_add p i (suc m) n =
    ap (λ (k : ℕ). all p (numbers i k)) (suc-add m n)
    ∙ ap (λ (x : Bool). p i && x) (all_add p (suc i) m n ∙ ap (λ (k : ℕ). all p (numbers (suc i) m) && all p (numbers k n)) (suc-add i m ∙ sym (add-suc i m)))
    ∙ sym (and_assoc (p i) (all p (numbers (suc i) m)) (all p (numbers (i + suc m) n)))

-- the numbers below i, and n more
pub all_later : (p : ℕ → Bool) (i n : ℕ) → all p (numbers 0 (i + n)) ≡ all p (numbers 0 i) && all (λ k. p (i + k)) (numbers 0 n)
all_later p i n =
    all_add p 0 i n
    ∙ and_same {c = all p (numbers 0 i)} refl (ap (λ (k : ℕ). all p (numbers k n)) (zero-add i ∙ sym (add-zero i)) ∙ all_shift p i 0 n)

-- n more numbers of which none passes
pub none_later : (p : ℕ → Bool) (i n : ℕ) → ((k : ℕ) → k < n → p (i + k) ≡ false) → any p (numbers 0 (i + n)) ≡ any p (numbers 0 i)
none_later p i n f = iff (any p (numbers 0 (i + n))) (any p (numbers 0 i)) to from
  where
    to : any p (numbers 0 (i + n)) ≡ true → any p (numbers 0 i) ≡ true
    to e = some_at p (i + n) e (λ k h q. found k h q (ltb k i) refl)
      where
        found : (k : ℕ) → k < i + n → p k ≡ true → (t : Bool) → ltb k i ≡ t → any p (numbers 0 i) ≡ true
        found k h q true r = some_by p i k (ltb-true k i r) q
        found k h q false r =
            let l = ltb-false k i r in
            let m : i + (k - i) ≡ k = omega arith in
            absurd (true≢false (sym q ∙ ap p (sym m) ∙ f (k - i) (omega arith)))

    from : any p (numbers 0 i) ≡ true → any p (numbers 0 (i + n)) ≡ true
    from e = some_at p i e (λ k h q. some_by p (i + n) k (omega arith) q)

-- m runs of w numbers, from run i on
runs_from : (p : ℕ → Bool) (w i m : ℕ) → all p (numbers (w * i) (w * m)) ≡ all (λ k. all (λ j. p (w * k + j)) (numbers 0 w)) (numbers i m)
runs_from p w i zero = ap (λ (k : ℕ). all p (numbers (w * i) k)) (mul-zero w)
runs_from p w i (suc m) =
    let e : w * suc m ≡ w + w * m = mul-suc w m ∙ omega arith in
    let f : w * i + w ≡ w * suc i = omega (arith, mul-suc w i) in
    ap (λ (k : ℕ). all p (numbers (w * i) k)) e ∙ all_add p (w * i) w (w * m)
    ∙ and_same (ap (λ (k : ℕ). all p (numbers k w)) (sym (add-zero (w * i))) ∙ all_shift p (w * i) 0 w) (ap (λ (k : ℕ). all p (numbers k (w * m))) f ∙ runs_from p w (suc i) m)

pub runs : (p : ℕ → Bool) (w m : ℕ) → all p (numbers 0 (w * m)) ≡ all (λ k. all (λ j. p (w * k + j)) (numbers 0 w)) (numbers 0 m)
runs p w m = ap (λ (k : ℕ). all p (numbers k (w * m))) (sym (mul-zero w)) ∙ runs_from p w 0 m
