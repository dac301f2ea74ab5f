-- Laws of sets of connections, for any number of connections: who belongs to a set after one is put in or taken out, how large the
-- number is, and when it is 0. Assumes nothing.
use Prim.Native.Nat.{ℕ, zero, suc, ◌+◌, ◌-◌, ◌*◌, ◌/◌, ◌%◌, ◌^◌, ◌<◌, ◌≤◌, max}
use mathlib.Core.Path.{◌≡◌, refl, ap, ◌∙◌, sym}
use mathlib.Core.Logic.{◌≢◌}
use mathlib.Core.Bool.{Bool, true, false, cond, ◌||◌}
use mathlib.Core.List.{[], ◌∷◌, ◌++◌}
use native.Mathlib.Nat.{div-eq_of_lt, one-mul, pow-suc}
use native.Mathlib.Numerals.{one-add}
use native.Mathlib.Omega.{arith}
use borrow.Author.Tests.{ltb-true, ltb-false, eqb-true, eqb-false, eq-eqb, ne_eqb}
use lib.Bits.{bit_or, or_shr, or_step}
use lib.Count.{ones, ones_step}
use lib.ListN.{length, length-append}
use lib.Pow.{pow_pos, pow_mono, shl_exact, shr-shr}
use lib.Dec.{eqb, ltb}
use Rattle.sets.specs.Sets.{has, insert, remove, union, is_empty, members}

-- ---- one bit

-- one more shift
shift : (s c : ℕ) → s / 2 / 2 ^ c ≡ s / 2 ^ suc c
shift s c = shr-shr s 1 c ∙ ap (λ (k : ℕ). s / 2 ^ k) (one-add c)

-- the bit of s at c
bit : ℕ → ℕ → ℕ
bit s c = s / 2 ^ c % 2

bit_next : (s c : ℕ) → bit s (suc c) ≡ bit (s / 2) c
unfolding bit
bit_next s c = ap (λ (k : ℕ). k % 2) (sym (shift s c))

small_bit : (s c : ℕ) → s < 2 ^ c → bit s c ≡ 0
unfolding bit
small_bit s c h = ap (λ (k : ℕ). k % 2) (div-eq_of_lt h)

large : (s c : ℕ) → bit s c ≡ 1 → 2 ^ c ≤ s
large s c e = go (ltb s (2 ^ c)) refl
  where
    go : (b : Bool) → ltb s (2 ^ c) ≡ b → 2 ^ c ≤ s
    go true t = absurd (omega (arith, small_bit s c (ltb-true _ _ t)))
    go false t = ltb-false _ _ t

-- a bit put in: that bit is 1, and the others stay
add_same : (s c : ℕ) → bit s c ≡ 0 → bit (s + 2 ^ c) c ≡ 1
unfolding bit
add_same s zero e = omega arith
add_same s (suc c) e =
    let p = pow-suc 2 c in
    let b : (s + 2 ^ suc c) / 2 ≡ s / 2 + 2 ^ c = omega arith in
    bit_next (s + 2 ^ suc c) c ∙ rw b (add_same (s / 2) c (sym (bit_next s c) ∙ e))

add_other : (s c x : ℕ) → bit s c ≡ 0 → x ≢ c → bit (s + 2 ^ c) x ≡ bit s x
unfolding bit
add_other s zero zero e n = absurd (n refl)
add_other s zero (suc x) e n = let b : (s + 1) / 2 ≡ s / 2 = omega arith in bit_next (s + 1) x ∙ rw b (sym (bit_next s x))
add_other s (suc c) zero e n = let p = pow-suc 2 c in omega arith
add_other s (suc c) (suc x) e n =
    let p = pow-suc 2 c in
    let b : (s + 2 ^ suc c) / 2 ≡ s / 2 + 2 ^ c = omega arith in
    bit_next (s + 2 ^ suc c) x ∙ rw b (add_other (s / 2) c x (sym (bit_next s c) ∙ e) (λ q. n (ap suc q)) ∙ sym (bit_next s x))

-- a bit taken out
take_same : (s c : ℕ) → bit s c ≡ 1 → bit (s - 2 ^ c) c ≡ 0
unfolding bit
take_same s zero e = omega arith
take_same s (suc c) e =
    let p = pow-suc 2 c in
    let l = large s (suc c) e in
    let b : (s - 2 ^ suc c) / 2 ≡ s / 2 - 2 ^ c = omega arith in
    bit_next (s - 2 ^ suc c) c ∙ rw b (take_same (s / 2) c (sym (bit_next s c) ∙ e))

take_other : (s c x : ℕ) → bit s c ≡ 1 → x ≢ c → bit (s - 2 ^ c) x ≡ bit s x
unfolding bit
take_other s zero zero e n = absurd (n refl)
take_other s zero (suc x) e n = let b : (s - 1) / 2 ≡ s / 2 = omega arith in bit_next (s - 1) x ∙ rw b (sym (bit_next s x))
take_other s (suc c) zero e n = let p = pow-suc 2 c in let l = large s (suc c) e in omega arith
take_other s (suc c) (suc x) e n =
    let p = pow-suc 2 c in
    let l = large s (suc c) e in
    let b : (s - 2 ^ suc c) / 2 ≡ s / 2 - 2 ^ c = omega arith in
    bit_next (s - 2 ^ suc c) x ∙ rw b (take_other (s / 2) c x (sym (bit_next s c) ∙ e) (λ q. n (ap suc q)) ∙ sym (bit_next s x))

-- ---- members

is_bit : (s c : ℕ) → has s c ≡ true → bit s c ≡ 1
unfolding has bit
is_bit s c e = eqb-true _ 1 e

no_bit : (s c : ℕ) → has s c ≡ false → bit s c ≡ 0
unfolding has bit
no_bit s c e = let z : s / 2 ^ c % 2 ≡ 1 → ⊥ = eqb-false _ 1 e in omega arith

bit_has : (s c : ℕ) → bit s c ≡ 1 → has s c ≡ true
unfolding has bit
bit_has s c e = eq-eqb _ 1 e

bit_lacks : (s c : ℕ) → bit s c ≡ 0 → has s c ≡ false
unfolding has bit
bit_lacks s c e = ne_eqb _ 1 (λ (q : s / 2 ^ c % 2 ≡ 1). omega arith)

same_has : (s r c : ℕ) → bit s c ≡ bit r c → has s c ≡ has r c
unfolding has bit
same_has s r c e = ap (λ (k : ℕ). eqb k 1) e

pub has_insert_same : (s c : ℕ) → has (insert s c) c ≡ true
unfolding insert
has_insert_same s c = go (has s c) refl
  where
    go : (b : Bool) → has s c ≡ b → has (cond b s (s + 2 ^ c)) c ≡ true
    go true e = e
    go false e = bit_has _ c (add_same s c (no_bit s c e))

pub has_insert_other : (s c x : ℕ) → x ≢ c → has (insert s c) x ≡ has s x
unfolding insert
has_insert_other s c x n = go (has s c) refl
  where
    go : (b : Bool) → has s c ≡ b → has (cond b s (s + 2 ^ c)) x ≡ has s x
    go true e = refl
    go false e = same_has _ s x (add_other s c x (no_bit s c e) n)

pub has_remove_same : (s c : ℕ) → has (remove s c) c ≡ false
unfolding remove
has_remove_same s c = go (has s c) refl
  where
    go : (b : Bool) → has s c ≡ b → has (cond b (s - 2 ^ c) s) c ≡ false
    go true e = bit_lacks _ c (take_same s c (is_bit s c e))
    go false e = e

pub has_remove_other : (s c x : ℕ) → x ≢ c → has (remove s c) x ≡ has s x
unfolding remove
has_remove_other s c x n = go (has s c) refl
  where
    go : (b : Bool) → has s c ≡ b → has (cond b (s - 2 ^ c) s) x ≡ has s x
    go true e = same_has _ s x (take_other s c x (is_bit s c e) n)
    go false e = refl

-- ---- both sets

low_or : (s t : ℕ) → bit_or s t % 2 ≡ max (s % 2) (t % 2)
low_or s t = rw or_step (omega arith)

either_bit : (x y : ℕ) → x < 2 → y < 2 → eqb (max x y) 1 ≡ eqb x 1 || eqb y 1
either_bit zero zero p q = refl
either_bit zero (suc zero) p q = refl
either_bit (suc zero) zero p q = refl
either_bit (suc zero) (suc zero) p q = refl
either_bit zero (suc (suc y)) p q = absurd (omega arith)
either_bit (suc zero) (suc (suc y)) p q = absurd (omega arith)
either_bit (suc (suc x)) y p q = absurd (omega arith)

pub has_union : (s t c : ℕ) → has (union s t) c ≡ has s c || has t c
unfolding has union
has_union s t c =
    rw (or_shr, low_or (s / 2 ^ c) (t / 2 ^ c)) (either_bit (s / 2 ^ c % 2) (t / 2 ^ c % 2) (omega arith) (omega arith))

-- ---- nothing to do

pub insert_present : (s c : ℕ) → has s c ≡ true → insert s c ≡ s
unfolding insert
insert_present s c e = rw e

pub remove_absent : (s c : ℕ) → has s c ≡ false → remove s c ≡ s
unfolding remove
remove_absent s c e = rw e

-- ---- how large the number is

pub has_above : (s n c : ℕ) → s < 2 ^ n → n ≤ c → has s c ≡ false
has_above s n c h l = bit_lacks s c (small_bit s c (let p : 2 ^ n ≤ 2 ^ c = pow_mono l in omega arith))

add_below : (s c n : ℕ) → bit s c ≡ 0 → c < n → s < 2 ^ n → s + 2 ^ c < 2 ^ n
unfolding bit
add_below s c zero e h l = absurd (omega arith)
add_below s zero (suc n) e h l = let p = pow-suc 2 n in omega arith
add_below s (suc c) (suc n) e h l =
    let p = pow-suc 2 n in
    let q = pow-suc 2 c in
    let r : s / 2 + 2 ^ c < 2 ^ n = add_below (s / 2) c n (sym (bit_next s c) ∙ e) (omega arith) (omega arith) in
    omega arith

pub insert_below : (s c n : ℕ) → c < n → s < 2 ^ n → insert s c < 2 ^ n
unfolding insert
insert_below s c n h l = go (has s c) refl
  where
    go : (b : Bool) → has s c ≡ b → cond b s (s + 2 ^ c) < 2 ^ n
    go true e = l
    go false e = add_below s c n (no_bit s c e) h l

pub remove_le : (s c : ℕ) → remove s c ≤ s
unfolding remove
remove_le s c = go (has s c)
  where
    go : (b : Bool) → cond b (s - 2 ^ c) s ≤ s
    go true = omega arith
    go false = omega arith

-- ---- the empty set

pub zero_has : (c : ℕ) → has 0 c ≡ false
zero_has c = bit_lacks 0 c (small_bit 0 c (pow_pos c))

pub zero_remove : (c : ℕ) → remove 0 c ≡ 0
zero_remove c = remove_absent 0 c (zero_has c)

-- the set of one connection
pub has_only : (c x : ℕ) → has (insert 0 c) x ≡ eqb c x
has_only c x = go (eqb c x) refl
  where
    go : (b : Bool) → eqb c x ≡ b → has (insert 0 c) x ≡ b
    go true e = let q : c ≡ x = eqb-true c x e in rw q (has_insert_same 0 x)
    go false e = let n : c ≡ x → ⊥ = eqb-false c x e in has_insert_other 0 c x (λ q. n (sym q)) ∙ zero_has x

pub nonempty : (s c : ℕ) → has s c ≡ true → is_empty s ≡ false
nonempty s c e = ne_eqb s 0 (λ z. absurd (omega (arith, pow_pos c, large s c (is_bit s c e))))

last_bit : (s : ℕ) → bit s 0 ≡ 0 → s / 2 ≡ 0 → s ≡ 0
unfolding bit
last_bit s e r = omega arith

-- a set without members is the number 0
pub no_members : (n s : ℕ) → s < 2 ^ n → ((c : ℕ) → c < n → has s c ≡ false) → s ≡ 0
no_members zero s h f = omega arith
no_members (suc n) s h f =
    let p = pow-suc 2 n in
    let r : s / 2 ≡ 0 = no_members n (s / 2) (omega arith) (λ c l. bit_lacks _ c (sym (bit_next s c) ∙ no_bit s (suc c) (f (suc c) (omega arith)))) in
    last_bit s (no_bit s 0 (f 0 (omega arith))) r

-- ---- how many belong to a set

-- one more connection to ask
counted : (n s : ℕ) → length (members (suc n) s) ≡ length (members n s) + bit s n
unfolding members
counted n s = go (has s n) refl
  where
    go : (b : Bool) → has s n ≡ b → length (members n s ++ cond b (n ∷ []) []) ≡ length (members n s) + bit s n
    go true e = omega (arith, length-append (members n s) (n ∷ []), is_bit s n e)
    go false e = omega (arith, length-append (members n s) [], no_bit s n e)

-- the lowest connection apart from the others
counted_low : (n s : ℕ) → length (members (suc n) s) ≡ bit s 0 + length (members n (s / 2))
unfolding members
counted_low zero s = omega (arith, counted 0 s)
counted_low (suc n) s = omega (arith, counted (suc n) s, counted_low n s, counted n (s / 2), bit_next s n)

-- 01: "its ones are counted for the status line"
pub ones_members : (n s : ℕ) → s < 2 ^ n → ones s ≡ length (members n s)
unfolding bit members ones
ones_members zero s h = let z : s ≡ 0 = omega arith in rw z
ones_members (suc n) s h =
    let p = pow-suc 2 n in
    omega (arith, ones_step s, ones_members n (s / 2) (omega arith), counted_low n s)

-- ---- what the code's tests and shifts say

pub only_shift : (c : ℕ) → c < 32 → 1 * 2 ^ c % 4294967296 ≡ 2 ^ c
only_shift c h = shl_exact {a = 1} 1 c 32 (omega arith) (omega arith) ∙ one-mul (2 ^ c)

module _ (s c : ℕ) (r : Bool) (e : r ≡ has s c) where
  pub insert_old : r ≡ true → s ≡ insert s c
  insert_old h = sym (insert_present s c (sym e ∙ h))

  pub insert_new : (b : ℕ) → b ≡ 2 ^ c → r ≡ false → s + b ≡ insert s c
  unfolding insert
  insert_new b q h = rw (← e, h, q)

  -- the sum is no larger than a set can be
  pub insert_fits : (b : ℕ) → b ≡ 2 ^ c → r ≡ false → c < 32 → s < 2 ^ 32 → s + b < 2 ^ 32
  insert_fits b q h l f = rw q (add_below s c 32 (no_bit s c (sym e ∙ h)) l f)

  pub remove_old : (b : ℕ) → b ≡ 2 ^ c → r ≡ true → s - b ≡ remove s c
  unfolding remove
  remove_old b q h = rw (← e, h, q)

  -- what is taken out is in it
  pub remove_fits : (b : ℕ) → b ≡ 2 ^ c → r ≡ true → b ≤ s
  remove_fits b q h = rw q (large s c (is_bit s c (sym e ∙ h)))

  pub remove_none : r ≡ false → s ≡ remove s c
  remove_none h = sym (remove_absent s c (sym e ∙ h))
