-- Laws of handles: their length, that they hold no zero byte, that they are one to one, and that a serial and its handle give each
-- other back, for any name of a hub. Assumes nothing.
use Prim.Native.Nat.{ℕ, suc, ◌+◌, ◌^◌, ◌<◌, ◌≤◌}
use mathlib.Core.Path.{◌≡◌, refl, ap, ◌∙◌, sym}
use mathlib.Core.Bool.{Bool, true, false, cond, ◌&&◌}
use mathlib.Core.List.{[], ◌∷◌, ◌++◌}
use native.Mathlib.Omega.{arith}
use borrow.Author.Tests.{le-leb, leb-true, eq-eqb, ne_eqb, eqb-true}
use lib.ListN.{length, drop, length-append}
use lib.Dec.{eqb, leb}
use Rattle.octets.specs.Bytes.{Bytes, same, every, first_zero, within, zero_free}
use Rattle.octets.proofs.Strings.{and_left, and_right, same_refl, same_is}
use Rattle.handle.specs.Handle.{decimal, handle, handle_most, is_hub_name, value, serial_of}
use Rattle.std.specs.Prelude.{Some, None}
use Rattle.handle.proofs.Hubs.{hub_most_lem, hub_zero_free}
use Rattle.handle.proofs.Decimal.{decimal_most, decimal_least, decimal_digits, decimal_one_to_one, value_decimal}

-- ---- how long, and what follows the prefix

pub length_handle : (name : Bytes) (n : ℕ) → length (handle name n) ≡ 3 + length name + length (decimal n)
unfolding handle
length_handle name n = simp length-append (omega arith)

pub handle_least : (name : Bytes) (n : ℕ) → 4 + length name ≤ length (handle name n)
handle_least name n = rw (length_handle name n) (omega (arith, decimal_least n))

pub handle_most_lem : (name : Bytes) (n : ℕ) → length (handle name n) ≤ 13 + length name
handle_most_lem name n = rw (length_handle name n) (omega (arith, decimal_most n))

drop_past : (s : Bytes) (x : ℕ) (d : Bytes) → drop (suc (length s)) (s ++ (x ∷ d)) ≡ d
drop_past [] x d = refl
drop_past (y ∷ s) x d = drop_past s x d

pub drop_handle : (name : Bytes) (n : ℕ) → drop (3 + length name) (handle name n) ≡ decimal n
unfolding handle
drop_handle name n = let q : 3 + length name ≡ suc (suc (suc (length name))) = omega arith in rw q (drop_past name 58 (decimal n))

-- ---- no zero byte

zero_within : (lo hi : ℕ) (s : Bytes) → 1 ≤ lo → every (within lo hi) s ≡ true → first_zero s ≡ length s
unfolding every first_zero
zero_within lo hi [] h e = refl
zero_within lo hi (x ∷ s) h e =
    let l : lo ≤ x = leb-true lo x (and_left (leb lo x) (leb x hi) (and_left (within lo hi x) (every (within lo hi) s) e)) in
    let z : eqb x 0 ≡ false = ne_eqb x 0 (λ q. omega arith) in
    rw z (ap suc (zero_within lo hi s h (and_right (within lo hi x) (every (within lo hi) s) e)))

append_step : (b : Bool) (p q f l : ℕ) → cond b 0 (suc p) ≡ suc q → (p ≡ q → f ≡ l) → cond b 0 (suc f) ≡ suc l
append_step true p q f l e h = absurd (omega arith)
append_step false p q f l e h = ap suc (h (omega arith))

zero_append : (s t : Bytes) → first_zero s ≡ length s → first_zero t ≡ length t → first_zero (s ++ t) ≡ length (s ++ t)
unfolding first_zero
zero_append [] t e h = h
zero_append (x ∷ s) t e h = append_step (eqb x 0) _ _ _ _ e (λ q. zero_append s t q h)

first_zero_handle : (name : Bytes) (n : ℕ) → first_zero name ≡ length name → first_zero (handle name n) ≡ length (handle name n)
unfolding handle first_zero
first_zero_handle name n e =
    let d : first_zero (58 ∷ decimal n) ≡ length (58 ∷ decimal n) = ap suc (zero_within 48 57 (decimal n) (omega arith) (decimal_digits n)) in
    ap (λ (k : ℕ). suc (suc k)) (zero_append name (58 ∷ decimal n) e d)

-- a handle holds no zero byte if the name holds none
pub handle_zero_free : (name : Bytes) (n : ℕ) → zero_free name ≡ true → zero_free (handle name n) ≡ true
handle_zero_free name n e = eq-eqb _ _ (first_zero_handle name n (eqb-true (first_zero name) (length name) e))

-- ---- at a hub

module _ (name : Bytes) (good : is_hub_name name ≡ true) (n : ℕ) where
  pub handle_bounded : length (handle name n) ≤ handle_most
  handle_bounded = omega (arith, handle_most_lem name n, hub_most_lem name good)

  pub handle_clean : zero_free (handle name n) ≡ true
  handle_clean = handle_zero_free name n (hub_zero_free name good)

-- ---- a serial and its handle

pub handle_one_to_one : (name : Bytes) (m n : ℕ) → m < 2 ^ 32 → n < 2 ^ 32 → handle name m ≡ handle name n → m ≡ n
handle_one_to_one name m n hm hn e =
    decimal_one_to_one m n (omega arith) (omega arith) (sym (drop_handle name m) ∙ ap (drop (3 + length name)) e ∙ drop_handle name n)

pub serial_of_handle : (name : Bytes) (n : ℕ) → 1 ≤ n → n < 2 ^ 32 → serial_of name (handle name n) ≡ Some n
unfolding serial_of
serial_of_handle name n l h =
    let v : value 0 (drop (3 + length name) (handle name n)) ≡ n = rw (drop_handle name n) (value_decimal n (omega arith)) in
    rw (v, le-leb 1 n l, le-leb n 4294967295 (omega arith), same_refl (handle name n))

of_step : (b : Bool) (m n : ℕ) → cond b (Some m) None ≡ Some n → (b ≡ true) × (m ≡ n)
of_step true m n e = let q : m ≡ n = cc in (refl, q)
of_step false m n e = let z : ◌≡◌ {A = ℕ} 0 1 = cc in absurd (omega arith)

pub handle_of_serial : (name t : Bytes) (n : ℕ) → serial_of name t ≡ Some n → (handle name n ≡ t) × (1 ≤ n) × (n < 2 ^ 32)
unfolding serial_of
handle_of_serial name t n e =
    let m : ℕ = value 0 (drop (3 + length name) t) in
    let k = of_step (within 1 4294967295 m && same (handle name m) t) m n e in
    let w : within 1 4294967295 m ≡ true = and_left (within 1 4294967295 m) (same (handle name m) t) k.0 in
    let s : handle name m ≡ t = same_is (handle name m) t (and_right (within 1 4294967295 m) (same (handle name m) t) k.0) in
    let q : m ≡ n = k.1 in
    let lo : 1 ≤ m = leb-true 1 m (and_left (leb 1 m) (leb m 4294967295) w) in
    let hi : m ≤ 4294967295 = leb-true m 4294967295 (and_right (leb 1 m) (leb m 4294967295) w) in
    (ap (handle name) (sym q) ∙ s, omega arith, omega arith)

-- ---- where the definitions compare texts, code may compare serials

module _ (name t : Bytes) (s : ℕ) where
  pub same_handle : 1 ≤ s → s < 2 ^ 32 → same (handle name s) t ≡ true → serial_of name t ≡ Some s
  same_handle l h e = ap (serial_of name) (sym (same_is (handle name s) t e)) ∙ serial_of_handle name s l h

  pub same_serial : serial_of name t ≡ Some s → same (handle name s) t ≡ true
  same_serial e = let q : handle name s ≡ t = (handle_of_serial name t s e).0 in rw q (same_refl t)

  other_step : (b : Bool) → (b ≡ true → ⊥) → b ≡ false
  other_step true n = absurd (n refl)
  other_step false n = refl

  pub other_handle : 1 ≤ s → s < 2 ^ 32 → (serial_of name t ≡ Some s → ⊥) → same (handle name s) t ≡ false
  other_handle l h n = other_step (same (handle name s) t) (λ e. n (same_handle l h e))

  pub other_serial : (r : ℕ) → 1 ≤ s → s < 2 ^ 32 → serial_of name t ≡ Some r → (r ≡ s → ⊥) → same (handle name s) t ≡ false
  other_serial r l h e n = other_handle l h (λ q. let p : r ≡ s = cc in n p)

  pub no_handle : 1 ≤ s → s < 2 ^ 32 → serial_of name t ≡ None → same (handle name s) t ≡ false
  no_handle l h e = other_handle l h (λ q. let z : ◌≡◌ {A = ℕ} 0 1 = cc in absurd (omega arith))
