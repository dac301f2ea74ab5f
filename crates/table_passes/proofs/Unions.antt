-- Sets that a loop gathers: each is the union of what the places passed add to it. Assumes nothing.
use Prim.Native.Nat.{ℕ, ◌+◌, ◌*◌, ◌/◌, ◌%◌, ◌^◌, ◌<◌, ◌≤◌}
use mathlib.Core.Path.{◌≡◌, refl, sym, ap, ap₂, ◌∙◌}
use mathlib.Core.Bool.{Bool, true, false, cond, ◌&&◌, ◌||◌}
use native.Mathlib.Nat.{div-add-mod', div-le_self, one-mul, zero-mul, zero-add, add-zero, mod-lt}
use native.Mathlib.Omega.{arith}
use borrow.Author.Tests.{eqb-true, eqb-false}
use lib.Bits.{bit_and, and_block, and_mask, and_zero_r, or_add_and}
use lib.Dec.{eqb}
use lib.Pow.{pow_pos, shr-shr}
use Rattle.sets.specs.Sets.{has, insert, union}
use Rattle.sets.proofs.Laws.{zero_has, has_union, has_only, no_members}
use Rattle.lists.specs.Lists.{any, numbers}
use Rattle.table_passes.proofs.Tests.{any_next}

-- ---- a loop that gathers a set

module _ (f : ℕ → ℕ) (n i s : ℕ) (e : (c : ℕ) → has s c ≡ any (λ k. has (f k) c) (numbers 0 i)) where
  pub joins_on : (x : ℕ) → x ≡ f i → (c : ℕ) → has (union s x) c ≡ any (λ k. has (f k) c) (numbers 0 (i + 1))
  joins_on x q c = has_union s x c ∙ ap₂ ◌||◌ (e c) (ap (λ (y : ℕ). has y c) q) ∙ sym (any_next (λ k. has (f k) c) i)

  pub joins_end : i ≤ n → n ≤ i → (c : ℕ) → has s c ≡ any (λ k. has (f k) c) (numbers 0 n)
  joins_end h g c = let k : i ≡ n = omega arith in rw k at (e c)

-- ---- one member more

pub has_more : (s x c : ℕ) → has (union s (insert 0 x)) c ≡ has s c || eqb x c
has_more s x c = has_union s (insert 0 x) c ∙ ap (λ (y : Bool). has s c || y) (has_only x c)

pub has_if : (t : Bool) (s c : ℕ) → has (cond t s 0) c ≡ t && has s c
has_if true s c = refl
has_if false s c = zero_has c

only_is : (c : ℕ) → insert 0 c ≡ 2 ^ c
unfolding insert
only_is c = rw (zero_has c) (zero-add (2 ^ c))

-- what a set and the set of one member have in common
common : (s c : ℕ) → bit_and s (2 ^ c) ≡ (s / 2 ^ c % 2) * 2 ^ c
common s c =
    ap₂ bit_and (sym (div-add-mod' s (2 ^ c))) (sym (add-zero (1 * 2 ^ c) ∙ one-mul (2 ^ c)))
    ∙ and_block c (s / 2 ^ c) 1 (s % 2 ^ c) 0 (mod-lt s (pow_pos c)) (pow_pos c)
    ∙ ap₂ (λ (x y : ℕ). x * 2 ^ c + y) (and_mask (s / 2 ^ c) 1) (and_zero_r (s % 2 ^ c))
    ∙ add-zero ((s / 2 ^ c % 2) * 2 ^ c)

or_member : (s c : ℕ) → has s c ≡ true → union s (2 ^ c) ≡ s
unfolding has union
or_member s c e =
    omega (arith, or_add_and s (2 ^ c), common s c, ap (λ (x : ℕ). x * 2 ^ c) (eqb-true (s / 2 ^ c % 2) 1 e), one-mul (2 ^ c))

or_new : (s c : ℕ) → has s c ≡ false → union s (2 ^ c) ≡ s + 2 ^ c
unfolding has union
or_new s c e =
    let n : s / 2 ^ c % 2 ≡ 1 → ⊥ = eqb-false (s / 2 ^ c % 2) 1 e in
    let z : s / 2 ^ c % 2 ≡ 0 = omega arith in
    omega (arith, or_add_and s (2 ^ c), common s c, ap (λ (x : ℕ). x * 2 ^ c) z, zero-mul (2 ^ c))

-- a set with one member more: the member is new, or the set stays
pub union_only : (s c : ℕ) → union s (insert 0 c) ≡ insert s c
unfolding insert
union_only s c = ap (union s) (only_is c) ∙ go (has s c) refl
  where
    go : (t : Bool) → has s c ≡ t → union s (2 ^ c) ≡ cond t s (s + 2 ^ c)
    go true e = or_member s c e
    go false e = or_new s c e

-- the set and its new member add up to the sum and the bit: the set was the sum, and the member is new
pub sum_fresh : (s n c : ℕ) → s ≤ n → union s (insert 0 c) ≡ n + insert 0 c → (s ≡ n) × (has s c ≡ false)
sum_fresh s n c h e = go (has s c) refl
  where
    go : (t : Bool) → has s c ≡ t → (s ≡ n) × (t ≡ false)
    go true q = absurd (omega (arith, pow_pos c, ap (union s) (only_is c), or_member s c q, only_is c))
    go false q = (omega (arith, ap (union s) (only_is c), or_new s c q, only_is c), refl)

pub union_least : (s x n : ℕ) → s ≤ n → union s x ≤ n + x
unfolding union
union_least s x n h = omega (arith, or_add_and s x)

-- ---- how large a set is

has_high : (s k c : ℕ) → has (s / 2 ^ k) c ≡ has s (k + c)
unfolding has
has_high s k c = ap (λ (x : ℕ). eqb (x % 2) 1) (shr-shr s k c)

-- a set of four bytes without members from n on is below 2 ^ n
pub low_set : (n s : ℕ) → s < 2 ^ 32 → ((c : ℕ) → n ≤ c → has s c ≡ false) → s < 2 ^ n
low_set n s h f =
    let e : s / 2 ^ n ≡ 0 = no_members 32 (s / 2 ^ n) (omega (arith, div-le_self s (2 ^ n))) (λ c l. has_high s n c ∙ f (n + c) (omega arith)) in
    omega (arith, div-add-mod' s (2 ^ n), ap (λ (x : ℕ). x * 2 ^ n) e, zero-mul (2 ^ n), mod-lt s (pow_pos n))
