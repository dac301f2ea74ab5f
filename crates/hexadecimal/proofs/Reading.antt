-- How the loops of reading meet their definitions: each byte a digit, and each two digits a byte. Assumes nothing.
use Prim.Native.Nat.{ℕ, zero, suc, ◌+◌, ◌*◌, ◌/◌, ◌%◌, ◌<◌, ◌≤◌}
use mathlib.Core.Path.{◌≡◌, refl, sym, ap, ◌∙◌}
use mathlib.Core.Bool.{Bool, true, false, not, cond, ◌&&◌}
use Rattle.std.specs.Prelude.{Option, Some, None}
use mathlib.Core.List.{[], ◌∷◌}
use mathlib.Core.Logic.{◌⊎◌, inl, inr, ⊎_elim}
use native.Mathlib.Nat.{not-suc-le-zero, zero-add}
use native.Mathlib.Omega.{arith}
use borrow.Author.Tests.{le-leb, lt-leb, leb-true, not-true, not-false}
use lib.ListN.{length, get_or, take, set}
use Rattle.octets.specs.Bytes.{Bytes, every}
use Rattle.octets.specs.Put.{put}
use Rattle.octets.proofs.Strings.{and_left, and_right}
use Rattle.octets.proofs.Laying.{copy_none, copy_more, copy_all}
use Rattle.hexadecimal.specs.Hex.{digit_value, cons_byte, unhex}
use Rattle.hexadecimal.specs.Spelling.{spelling, is_digit, digit_of, pairs}
use Rattle.std.specs.Option.{IsSome, is_some}

-- ---- each byte a digit

-- a byte is one where it stands for something
module _ (x : ℕ) where
  stands : (b : Bool) → is_some (cond b (Some (digit_value x)) None) ≡ b
  stands true = refl
  stands false = refl

  pub digit_known : (r : Option ℕ) (b : Bool) → r ≡ digit_of x → b ≡ is_some r → b ≡ is_digit x
  digit_known r b e f = rw (f, e) (stands (is_digit x))

-- what stands at a place is one
digit_at : (s : Bytes) (k : ℕ) → every is_digit s ≡ true → k < length s → digit_value (get_or s k 0) ≤ 15
unfolding every
digit_at [] k e h = absurd (not-suc-le-zero h)
digit_at (x ∷ s) zero e h = leb-true (digit_value x) 15 (and_left (is_digit x) (every is_digit s) e)
digit_at (x ∷ s) (suc k) e h = digit_at s k (and_right (is_digit x) (every is_digit s) e) (omega arith)

-- ---- each two digits a byte

pub pairs_length : (s : Bytes) (n : ℕ) → length s ≡ 2 * n → length (pairs s) ≡ n
unfolding pairs
pairs_length [] n e = omega arith
pairs_length (x ∷ []) n e = absurd (omega arith)
pairs_length (x ∷ (y ∷ s)) zero e = absurd (omega arith)
pairs_length (x ∷ (y ∷ s)) (suc n) e = ap suc (pairs_length s n (omega arith))

pub pairs_at : (s : Bytes) (i : ℕ) → 2 * i + 1 < length s → get_or (pairs s) i 0 ≡ digit_value (get_or s (2 * i) 0) * 16 + digit_value (get_or s (2 * i + 1) 0)
unfolding pairs
pairs_at [] i h = absurd (not-suc-le-zero h)
pairs_at (x ∷ []) i h = absurd (omega arith)
pairs_at (x ∷ (y ∷ s)) zero h = refl
pairs_at (x ∷ (y ∷ s)) (suc i) h =
    let q : 2 * suc i ≡ suc (suc (2 * i)) = omega arith in
    let p : 2 * suc i + 1 ≡ suc (suc (2 * i + 1)) = omega arith in
    rw (p, q) (pairs_at s i (omega arith))

-- at each place of digits the code finds what the digit stands for
module _ (s : Bytes) (k : ℕ) (d : every is_digit s ≡ true) (h : k < length s) (r : Option ℕ) (e : r ≡ digit_of (get_or s k 0)) where
  pub digit_found : r ≡ Some (digit_value (get_or s k 0))
  digit_found = e ∙ rw (le-leb (digit_value (get_or s k 0)) 15 (digit_at s k d h))

  pub digit_there : IsSome r
  digit_there = rw digit_found

  pub digit_taken : (v : ℕ) → r ≡ Some v → v ≡ digit_value (get_or s k 0)
  digit_taken v q = let f = digit_found in cc

-- the laying under way: i bytes of the pairs lie over the buffer
module _ (b s : Bytes) (n : ℕ) (e : length s ≡ 2 * n) where
  pub pairs_none : b ≡ put 0 (take 0 (pairs s)) b
  pairs_none = copy_none b 0 (pairs s)

  pub pairs_more : (o : Bytes) (i x : ℕ) → o ≡ put 0 (take i (pairs s)) b → i < n → x ≡ get_or (pairs s) i 0 → set o i x ≡ put 0 (take (i + 1) (pairs s)) b
  pairs_more o i x eo k ex = rw ex (rw zero-add at (copy_more b 0 (pairs s) o i eo (omega (arith, pairs_length s n e))))

  pub pairs_all : (o : Bytes) (i : ℕ) → o ≡ put 0 (take i (pairs s)) b → i ≤ n → n ≤ i → o ≡ put 0 (pairs s) b
  pairs_all o i eo h k = copy_all b 0 (pairs s) o i eo (omega (arith, pairs_length s n e)) (omega (arith, pairs_length s n e))

-- ---- the bytes that the digits spell

bad_pair : (a b : Bool) (x : ℕ) (r : Option Bytes) → a ≡ false ⊎ (b ≡ false ⊎ r ≡ None) → cond (a && b) (cons_byte x r) None ≡ None
bad_pair false b x r e = refl
bad_pair true false x r e = refl
bad_pair true true x None e = refl
bad_pair true true x (Some s) e = let z : ◌≡◌ {A = ℕ} 0 1 = ⊎_elim (λ w. cc) (⊎_elim (λ w. cc) (λ w. cc)) e in absurd (omega arith)

false_part : (a b c : Bool) → a && (b && c) ≡ false → a ≡ false ⊎ (b ≡ false ⊎ c ≡ false)
false_part false b c e = inl refl
false_part true false c e = inr (inl refl)
false_part true true c e = inr (inr e)

unhex_bad : (s : Bytes) → every is_digit s ≡ false → unhex s ≡ None
unfolding unhex every
unhex_bad [] e = let z : ◌≡◌ {A = ℕ} 0 1 = cc in absurd (omega arith)
unhex_bad (x ∷ []) e = refl
unhex_bad (x ∷ (y ∷ s)) e =
    bad_pair (is_digit x) (is_digit y) (digit_value x * 16 + digit_value y) (unhex s)
    (⊎_elim inl (λ w. inr (⊎_elim inl (λ v. inr (unhex_bad s v)) w)) (false_part (is_digit x) (is_digit y) (every is_digit s) e))

unhex_odd : (s : Bytes) (n : ℕ) → length s ≡ 2 * n + 1 → unhex s ≡ None
unfolding unhex
unhex_odd [] n e = absurd (omega arith)
unhex_odd (x ∷ []) n e = refl
unhex_odd (x ∷ (y ∷ s)) zero e = absurd (omega arith)
unhex_odd (x ∷ (y ∷ s)) (suc n) e = bad_pair (is_digit x) (is_digit y) (digit_value x * 16 + digit_value y) (unhex s) (inr (inr (unhex_odd s n (omega arith))))

unhex_pairs : (s : Bytes) (n : ℕ) → length s ≡ 2 * n → every is_digit s ≡ true → unhex s ≡ Some (pairs s)
unfolding unhex every pairs
unhex_pairs [] n l e = refl
unhex_pairs (x ∷ []) n l e = absurd (omega arith)
unhex_pairs (x ∷ (y ∷ s)) zero l e = absurd (omega arith)
unhex_pairs (x ∷ (y ∷ s)) (suc n) l e =
    let r : is_digit y && every is_digit s ≡ true = and_right (is_digit x) (is_digit y && every is_digit s) e in
    let hx : is_digit x ≡ true = and_left (is_digit x) (is_digit y && every is_digit s) e in
    let hy : is_digit y ≡ true = and_left (is_digit y) (every is_digit s) r in
    let ih : unhex s ≡ Some (pairs s) = unhex_pairs s n (omega arith) (and_right (is_digit y) (every is_digit s) r) in
    rw (hx, hy, ih)

-- ---- what `read_hex` answers

module _ (d out : Bytes) where
  pub spelling_odd : (length d % 2 ≡ 0 → ⊥) → record { answer = None; output = out } ≡ spelling d out
  unfolding spelling
  spelling_odd h = sym (rw (unhex_odd d (length d / 2) (omega arith)))

  pub spelling_bad : (r : Bool) → r ≡ every is_digit d → not r ≡ true → record { answer = None; output = out } ≡ spelling d out
  unfolding spelling
  spelling_bad r e h = sym (rw (unhex_bad d (sym e ∙ not-true r h)))

  pub spelling_even : (n : ℕ) → length d % 2 ≡ 0 → n ≡ length d / 2 → length d ≡ 2 * n
  spelling_even n z m = omega arith

  module _ (r : Bool) (e : r ≡ every is_digit d) (h : not r ≡ false) where
    pub spelling_digits : every is_digit d ≡ true
    spelling_digits = sym e ∙ not-false r h

    module _ (n : ℕ) (z : length d % 2 ≡ 0) (m : n ≡ length d / 2) where
      even : length d ≡ 2 * n
      even = spelling_even n z m

      pub spelling_long : length out < n → record { answer = None; output = out } ≡ spelling d out
      unfolding spelling
      spelling_long k = sym (rw (unhex_pairs d n even spelling_digits, pairs_length d n even, lt-leb n (length out) k))

      pub spelling_good : (o : Bytes) → n ≤ length out → o ≡ put 0 (pairs d) out → record { answer = Some n; output = o } ≡ spelling d out
      unfolding spelling
      spelling_good o k eo = sym (rw (unhex_pairs d n even spelling_digits, pairs_length d n even, le-leb n (length out) k, eo))
