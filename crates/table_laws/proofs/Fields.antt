-- One field of the layout: a number, a flag or a text lies in the bytes as it was written, and reading gives it back.
-- A place's bytes are what a number, a flag or a text read there would be written as. Assumes nothing.
use Prim.Native.Nat.{ℕ, zero, suc, ◌+◌, ◌*◌, ◌/◌, ◌%◌, ◌^◌, ◌<◌, ◌≤◌}
use mathlib.Core.Path.{◌≡◌, refl, sym, ap, ap₂, ◌∙◌}
use mathlib.Core.Bool.{Bool, true, false, cond}
use mathlib.Core.List.{[], ◌∷◌, ◌++◌, append_assoc}
use native.Mathlib.Nat.{not-suc-le-zero, le_of_suc-le-suc, pow-suc}
use native.Mathlib.Omega.{arith}
use borrow.Author.Tests.{eqb-true}
use lib.ListN.{length, get_or, take, length-append}
use lib.Seq.{get_or-append_seam, append_snoc, take_at, drop_at, drop-cons}
use lib.Dec.{eqb}
use Rattle.octets.specs.Bytes.{Bytes, first_zero, zero_free}
use Rattle.octets.proofs.Strings.{clean_step}
use Rattle.lists.specs.Lists.{fit}
use Rattle.server.specs.Layout.{little, little_at, flag_byte, flag_at, text_at}
use Rattle.lists.proofs.Lists.{length_fit}
use Rattle.table_laws.specs.Tests.{part}

-- ---- how long a field is

pub length_little : (k n : ℕ) → length (little k n) ≡ k
unfolding little
length_little zero n = refl
length_little (suc k) n = ap suc (length_little k (n / 256))

-- ---- where bytes lie

-- s lies in b from place `at` on
pub record Lies (b : Bytes) (at : ℕ) (s : Bytes) : Type 0 where
  pub before : Bytes
  pub after : Bytes
  pub whole : b ≡ before ++ (s ++ after)
  pub place : length before ≡ at

pub lies_part : (b : Bytes) (at : ℕ) (s : Bytes) (k : ℕ) → Lies b at s → length s ≡ k → part k b at ≡ s
lies_part b at s k l e =
    ap (λ (x : Bytes). part k x at) l.whole
    ∙ ap (λ (x : Bytes). take k x) (drop_at l.before (s ++ l.after) at l.place) ∙ take_at s l.after k e

-- bytes that lie at a place and are one after the other
pub lies_left : (b : Bytes) (at : ℕ) (s t : Bytes) → Lies b at (s ++ t) → Lies b at s
lies_left b at s t l = record { before = l.before; after = t ++ l.after; whole = l.whole ∙ ap (λ (x : Bytes). l.before ++ x) (append_assoc s t l.after); place = l.place }

pub lies_right : (b : Bytes) (at : ℕ) (s t : Bytes) (to : ℕ) → Lies b at (s ++ t) → at + length s ≡ to → Lies b to t
lies_right b at s t to l e =
    record {
      before = l.before ++ s;
      after = l.after;
      whole = l.whole ∙ ap (λ (x : Bytes). l.before ++ x) (append_assoc s t l.after) ∙ sym (append_assoc l.before s (t ++ l.after));
      place = length-append l.before s ∙ ap (λ (n : ℕ). n + length s) l.place ∙ e;
    }

-- ---- numbers

pub little_front : (k n : ℕ) (a r : Bytes) → n < 256 ^ k → little_at k (a ++ (little k n ++ r)) (length a) ≡ n
unfolding little little_at
little_front zero n a r h = omega arith
little_front (suc k) n a r h =
    let p = pow-suc 256 k in
    let m : n / 256 < 256 ^ k = omega arith in
    let x : get_or (a ++ (n % 256 ∷ (little k (n / 256) ++ r))) (length a) 0 ≡ n % 256 = get_or-append_seam a (n % 256) (little k (n / 256) ++ r) 0 in
    let l : length (a ++ (n % 256 ∷ [])) ≡ suc (length a) = length-append a (n % 256 ∷ []) ∙ omega arith in
    let y : little_at k (a ++ (n % 256 ∷ (little k (n / 256) ++ r))) (suc (length a)) ≡ n / 256 =
    ap₂ (λ (b : Bytes) (at : ℕ). little_at k b at) (sym (append_snoc a (n % 256) (little k (n / 256) ++ r))) (sym l)
    ∙ little_front k (n / 256) (a ++ (n % 256 ∷ [])) r m in
    omega arith

pub little_lies : (k n : ℕ) (b : Bytes) (at : ℕ) → n < 256 ^ k → Lies b at (little k n) → little_at k b at ≡ n
little_lies k n b at h l = ap₂ (λ (x : Bytes) (i : ℕ). little_at k x i) l.whole (sym l.place) ∙ little_front k n l.before l.after h

pub byte_is : (b : Bytes) (at : ℕ) → little_at 1 b at ≡ get_or b at 0
unfolding little_at
byte_is b at = omega arith

pub byte_lies : (n : ℕ) (b : Bytes) (at : ℕ) → n < 256 → Lies b at (little 1 n) → get_or b at 0 ≡ n
byte_lies n b at h l = sym (byte_is b at) ∙ little_lies 1 n b at h l

-- the bytes of a place are those of the number read there
pub little_again : (k : ℕ) (b : Bytes) (at : ℕ) → ((i : ℕ) → get_or b i 0 < 256) → at + k ≤ length b → little k (little_at k b at) ≡ part k b at
unfolding little little_at
little_again zero b at h l = refl
little_again (suc k) b at h l =
    let x : get_or b at 0 < 256 = h at in
    let q : (get_or b at 0 + 256 * little_at k b (suc at)) % 256 ≡ get_or b at 0 = omega arith in
    let d : (get_or b at 0 + 256 * little_at k b (suc at)) / 256 ≡ little_at k b (suc at) = omega arith in
    rw (q, d, drop-cons b at 0 (omega arith)) (ap (λ (s : Bytes). get_or b at 0 ∷ s) (little_again k b (suc at) h (omega arith)))

pub byte_again : (b : Bytes) (at : ℕ) → ((i : ℕ) → get_or b i 0 < 256) → at + 1 ≤ length b → little 1 (get_or b at 0) ≡ part 1 b at
byte_again b at h l = ap (little 1) (sym (byte_is b at)) ∙ little_again 1 b at h l

-- ---- flags

flag_back : (f : Bool) → eqb (cond f 1 0) 1 ≡ f
flag_back true = refl
flag_back false = refl

pub flag_lies : (f : Bool) (b : Bytes) (at : ℕ) → Lies b at (flag_byte f) → flag_at b at ≡ f
flag_lies f b at l =
    let e : get_or b at 0 ≡ cond f 1 0 = ap₂ (λ (x : Bytes) (i : ℕ). get_or x i 0) l.whole (sym l.place) ∙ get_or-append_seam l.before (cond f 1 0) l.after 0 in
    rw e (flag_back f)

-- ---- texts

-- the text of a place is what stands before its first zero byte
abbrev pub before_zero : Bytes → Bytes
before_zero p = take (first_zero p) p

pub fit_text : (k : ℕ) (s : Bytes) → length s ≤ k → first_zero s ≡ length s → before_zero (fit k s) ≡ s
unfolding first_zero
fit_text zero [] h z = refl
fit_text zero (x ∷ s) h z = absurd (not-suc-le-zero h)
fit_text (suc k) [] h z = refl
fit_text (suc k) (x ∷ s) h z =
    let c = clean_step (first_zero s) (length s) (eqb x 0) z in
    rw c.0 (ap (λ (l : Bytes). x ∷ l) (fit_text k s (le_of_suc-le-suc h) c.1))

pub text_lies : (k : ℕ) (s b : Bytes) (at : ℕ) → length s ≤ k → zero_free s ≡ true → Lies b at (fit k s) → text_at k b at ≡ s
unfolding text_at
text_lies k s b at h z l = ap before_zero (lies_part b at (fit k s) k l (length_fit k s)) ∙ fit_text k s h (eqb-true (first_zero s) (length s) z)
