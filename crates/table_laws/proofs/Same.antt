-- Bytes compared with a column: the comparison is one test for each row. A flag's test is that its byte is 0 or 1; a text's, that
-- after its first zero byte only zeros follow; a number's always passes. Assumes nothing.
use Prim.Native.Nat.{ℕ, zero, suc, ◌+◌, ◌*◌, ◌<◌, ◌≤◌}
use mathlib.Core.Path.{◌≡◌, refl, sym, ap, ap₂, ◌∙◌}
use mathlib.Core.Bool.{Bool, true, false, cond, ◌&&◌}
use mathlib.Core.List.{[], ◌∷◌, ◌++◌, map}
use native.Mathlib.Nat.{mul-suc, mul-zero, mul-le-mul_left, add-zero, one-mul}
use native.Mathlib.Omega.{arith}
use borrow.Author.Tests.{eq-eqb, eqb-true, eqb-false, lt-leb}
use lib.ListN.{length, get_or, take, drop, length-drop}
use lib.Seq.{take-add, drop-drop, drop-cons, length-take-le}
use lib.Dec.{eqb, leb}
use Rattle.octets.specs.Bytes.{Bytes, same, first_zero, every}
use Rattle.octets.proofs.Strings.{and_both, same_refl}
use Rattle.lists.specs.Lists.{all, numbers, fit}
use Rattle.server.specs.Layout.{column, little, little_at, flag_byte, flag_at, text_at}
use Rattle.lists.proofs.Lists.{length_fit}
use Rattle.table_laws.specs.Tests.{part, is_zero, is_flag, is_padded, are_flags, are_padded}
use Rattle.table_laws.proofs.Columns.{length_places, numbers_long, flags_long, texts_long}
use Rattle.table_laws.proofs.Fields.{length_little, little_again, before_zero}

-- ---- parts

pub part_add : (k m : ℕ) (b : Bytes) (at : ℕ) → part (k + m) b at ≡ part k b at ++ part m b (at + k)
part_add k m b at = take-add k m (drop at b) ∙ ap (λ (s : Bytes). part k b at ++ take m s) (drop-drop k at b)

pub length_part : (k : ℕ) (b : Bytes) (at : ℕ) → at + k ≤ length b → length (part k b at) ≡ k
length_part k b at h = length-take-le k (drop at b) (omega (arith, length-drop at b))

-- ---- conjunctions

pub and_assoc : (x y z : Bool) → (x && y) && z ≡ x && (y && z)
and_assoc true y z = refl
and_assoc false y z = refl

pub every_append : (f : ℕ → Bool) (s t : Bytes) → every f (s ++ t) ≡ every f s && every f t
unfolding every
every_append f [] t = refl
every_append f (x ∷ s) t = ap (λ (y : Bool). f x && y) (every_append f s t) ∙ sym (and_assoc (f x) (every f s) (every f t))

pub all_true : (p : ℕ → Bool) (i m : ℕ) → ((k : ℕ) → i ≤ k → k < i + m → p k ≡ true) → all p (numbers i m) ≡ true
all_true p i zero h = refl
all_true p i (suc m) h = and_both (p i) _ (h i (omega arith) (omega arith)) (all_true p (suc i) m (λ k l g. h k (omega arith) (omega arith)))

pub all_same : (p q : ℕ → Bool) (i m : ℕ) → ((k : ℕ) → i ≤ k → k < i + m → p k ≡ q k) → all p (numbers i m) ≡ all q (numbers i m)
all_same p q i zero h = refl
all_same p q i (suc m) h = ap₂ ◌&&◌ (h i (omega arith) (omega arith)) (all_same p q (suc i) m (λ k l g. h k (omega arith) (omega arith)))

-- ---- one comparison after another

pub same_append : (a b c d : Bytes) → length a ≡ length c → same (a ++ b) (c ++ d) ≡ same a c && same b d
unfolding same
same_append [] b [] d e = refl
same_append [] b (y ∷ c) d e = absurd (omega arith)
same_append (x ∷ a) b [] d e = absurd (omega arith)
same_append (x ∷ a) b (y ∷ c) d e = ap (λ (z : Bool). eqb x y && z) (same_append a b c d (omega arith)) ∙ sym (and_assoc (eqb x y) (same a c) (same b d))

-- the first k bytes against s, and the m that follow against r
pub same_next : (k m : ℕ) (b : Bytes) (at : ℕ) (s r : Bytes) {p q : Bool} → at + k ≤ length b → length s ≡ k
    → same (part k b at) s ≡ p → same (part m b (at + k)) r ≡ q → same (part (k + m) b at) (s ++ r) ≡ p && q
same_next k m b at s r h e f g =
    ap (λ (x : Bytes). same x (s ++ r)) (part_add k m b at) ∙ same_append (part k b at) (part m b (at + k)) s r (length_part k b at h ∙ sym e) ∙ ap₂ ◌&&◌ f g

-- how the m bytes from a place on compare with s
pub record Agrees (m : ℕ) (b : Bytes) (at : ℕ) (s : Bytes) (p : Bool) : Type 0 where
  pub agrees : same (part m b at) s ≡ p

pub next_agrees : (k : ℕ) {m : ℕ} (b : Bytes) (at : ℕ) (s : Bytes) {r : Bytes} {p q : Bool} → at + k ≤ length b → length s ≡ k
    → same (part k b at) s ≡ p → Agrees m b (at + k) r q → Agrees (k + m) b at (s ++ r) (p && q)
next_agrees k {m} b at s {r} h e f g = record { agrees = same_next k m b at s r h e f g.agrees }

-- ---- a column

module _ {A : Type 0} (f : A → Bytes) (w : ℕ) (width : (x : A) → length (f x) ≡ w) (g : ℕ → A) (b : Bytes) (at : ℕ) where
  same_from : (i m : ℕ) → at + w * i + w * m ≤ length b
      → same (part (w * m) b (at + w * i)) (column f (map g (numbers i m))) ≡ all (λ k. same (part w b (at + w * k)) (f (g k))) (numbers i m)
  unfolding same
  same_from i zero h = rw mul-zero
  same_from i (suc m) h =
      let e : w * suc m ≡ w + w * m = rw mul-suc (omega arith) in
      let d : at + w * suc i ≡ at + w * i + w = rw mul-suc (omega arith) in
      rw e (same_next w (w * m) b (at + w * i) (f (g i)) (column f (map g (numbers (suc i) m))) (omega arith) (width (g i)) refl (rw d at (same_from (suc i) m (omega arith))))

  -- a column is as its bytes if each field is
  pub same_column : (m : ℕ) (p : ℕ → Bool) → at + w * m ≤ length b → ((k : ℕ) → k < m → same (part w b (at + w * k)) (f (g k)) ≡ p k)
      → same (part (w * m) b at) (column f (map g (numbers 0 m))) ≡ all p (numbers 0 m)
  same_column m p h t =
      let z : at + w * 0 ≡ at = rw mul-zero (add-zero at) in
      let l : at + w * 0 + w * m ≤ length b = rw z h in
      rw z at (same_from 0 m l) ∙ all_same (λ k. same (part w b (at + w * k)) (f (g k))) p 0 m (λ k _ q. t k (omega arith))

-- the bytes of field k lie inside those of all m
pub field_inside : (w m at k n : ℕ) → at + w * m ≤ n → k < m → at + w * k + w ≤ n
field_inside w m at k n h l = let g : w * suc k ≤ w * m = mul-le-mul_left w l in omega (arith, rw mul-suc at g)

-- ---- numbers

module _ {A : Type 0} (k : ℕ) (v : A → ℕ) (g : ℕ → A) (b : Bytes) (at : ℕ) (small : (i : ℕ) → get_or b i 0 < 256) where
  pub same_numbers : (m : ℕ) → at + k * m ≤ length b → ((i : ℕ) → v (g i) ≡ little_at k b (at + k * i))
      → same (part (k * m) b at) (column (λ x. little k (v x)) (map g (numbers 0 m))) ≡ true
  same_numbers m h e =
      same_column (λ (x : A). little k (v x)) k (λ x. length_little k (v x)) g b at m (λ i. true) h
      (λ i l. let j : at + k * i + k ≤ length b = field_inside k m at i (length b) h l in
      rw (e i, little_again k b (at + k * i) small j) (same_refl (part k b (at + k * i))))
      ∙ all_true (λ i. true) 0 m (λ i _ _. refl)

-- ---- flags

flag_test : (x : ℕ) → same (x ∷ []) (flag_byte (eqb x 1)) ≡ is_flag x
unfolding same
flag_test x = go (eqb x 1) refl
  where
    no : (b : Bool) → eqb x 0 ≡ b → (x ≡ 1 → ⊥) → eqb x 0 && true ≡ leb x 1
    no true e n = rw (e, eqb-true x 0 e)
    no false e n = let z : x ≡ 0 → ⊥ = eqb-false x 0 e in rw (e, lt-leb x 1 (omega arith))

    go : (b : Bool) → eqb x 1 ≡ b → eqb x (cond b 1 0) && true ≡ leb x 1
    go true e = rw (eqb-true x 1 e)
    go false e = no (eqb x 0) refl (eqb-false x 1 e)

flags_from : (m : ℕ) (b : Bytes) (at i : ℕ) → at + i + m ≤ length b → all (λ k. is_flag (get_or b (at + k) 0)) (numbers i m) ≡ every is_flag (part m b (at + i))
unfolding every
flags_from zero b at i h = refl
flags_from (suc m) b at i h =
    let e : suc (at + i) ≡ at + suc i = omega arith in
    rw (drop-cons b (at + i) 0 (omega arith), e) (ap (λ (z : Bool). is_flag (get_or b (at + i) 0) && z) (flags_from m b at (suc i) (omega arith)))

module _ {A : Type 0} (v : A → Bool) (g : ℕ → A) (b : Bytes) (at : ℕ) where
  pub same_flags : (m : ℕ) → at + m ≤ length b → ((i : ℕ) → v (g i) ≡ flag_at b (at + i)) → same (part m b at) (column (λ x. flag_byte (v x)) (map g (numbers 0 m))) ≡ are_flags m b at
  unfolding are_flags
  same_flags m h e =
      let c : same (part (1 * m) b at) (column (λ x. flag_byte (v x)) (map g (numbers 0 m))) ≡ all (λ k. is_flag (get_or b (at + k) 0)) (numbers 0 m) =
      same_column (λ (x : A). flag_byte (v x)) 1 (λ x. refl) g b at m (λ k. is_flag (get_or b (at + k) 0)) (omega arith)
      (λ k l. rw (one-mul k, e k, drop-cons b (at + k) 0 (omega arith)) (flag_test (get_or b (at + k) 0))) in
      rw one-mul at c ∙ flags_from m b at 0 (omega arith) ∙ ap (λ (i : ℕ). every is_flag (part m b i)) (add-zero at)

-- flags at two places, one after the other
pub flags_add : (k m : ℕ) (b : Bytes) (at : ℕ) → are_flags k b at && are_flags m b (at + k) ≡ are_flags (k + m) b at
unfolding are_flags
flags_add k m b at = sym (ap (every is_flag) (part_add k m b at) ∙ every_append is_flag (part k b at) (part m b (at + k)))

-- ---- texts

zeros_test : (p : Bytes) (k : ℕ) → length p ≡ k → same p (fit k []) ≡ every is_zero p
unfolding same every
zeros_test [] zero e = refl
zeros_test [] (suc k) e = absurd (omega arith)
zeros_test (x ∷ p) zero e = absurd (omega arith)
zeros_test (x ∷ p) (suc k) e = ap (λ (z : Bool). eqb x 0 && z) (zeros_test p k (omega arith))

text_step : (x : ℕ) (p : Bytes) (k : ℕ) (b : Bool) → eqb x 0 ≡ b → length p ≡ k → same p (fit k (before_zero p)) ≡ every is_zero (drop (first_zero p) p)
    → let z = cond b 0 (suc (first_zero p)) in same (x ∷ p) (fit (suc k) (take z (x ∷ p))) ≡ every is_zero (drop z (x ∷ p))
unfolding same every
text_step x p k true e l ih = ap (λ (z : Bool). eqb x 0 && z) (zeros_test p k l)
text_step x p k false e l ih = rw (eq-eqb x x refl) ih

-- a place is the text before its first zero byte and zeros, exactly if only zeros follow that byte
text_test : (p : Bytes) (k : ℕ) → length p ≡ k → same p (fit k (before_zero p)) ≡ every is_zero (drop (first_zero p) p)
unfolding same every first_zero
text_test [] zero e = refl
text_test [] (suc k) e = absurd (omega arith)
text_test (x ∷ p) zero e = absurd (omega arith)
text_test (x ∷ p) (suc k) e = text_step x p k (eqb x 0) refl (omega arith) (text_test p k (omega arith))

module _ {A : Type 0} (k : ℕ) (v : A → Bytes) (g : ℕ → A) (b : Bytes) (at : ℕ) where
  pub same_texts : (m : ℕ) → at + k * m ≤ length b → ((i : ℕ) → v (g i) ≡ text_at k b (at + k * i)) → same (part (k * m) b at) (column (λ x. fit k (v x)) (map g (numbers 0 m))) ≡ are_padded k m b at
  unfolding are_padded is_padded text_at
  same_texts m h e =
      same_column (λ (x : A). fit k (v x)) k (λ x. length_fit k (v x)) g b at m (λ i. is_padded k b (at + k * i)) h
      (λ i l. rw (e i) (text_test (part k b (at + k * i)) k (length_part k b (at + k * i) (field_inside k m at i (length b) h l))))

-- ---- a column, and then the rest

module _ {A : Type 0} (b : Bytes) (g : ℕ → A) where
  pub next_numbers : (k m : ℕ) (v : A → ℕ) (at : ℕ) {rest : ℕ} {r : Bytes} {q : Bool} → ((i : ℕ) → get_or b i 0 < 256) → at + k * m ≤ length b
      → ((i : ℕ) → v (g i) ≡ little_at k b (at + k * i)) → Agrees rest b (at + k * m) r q → Agrees (k * m + rest) b at (column (λ x. little k (v x)) (map g (numbers 0 m)) ++ r) q
  next_numbers k m v at small h e a =
      next_agrees (k * m) b at (column (λ x. little k (v x)) (map g (numbers 0 m))) h (numbers_long k v (map g (numbers 0 m)) m (length_places g 0 m)) (same_numbers k v g b at small m h e) a

  pub next_flags : (m : ℕ) (v : A → Bool) (at : ℕ) {rest : ℕ} {r : Bytes} {q : Bool} → at + m ≤ length b
      → ((i : ℕ) → v (g i) ≡ flag_at b (at + i)) → Agrees rest b (at + m) r q → Agrees (m + rest) b at (column (λ x. flag_byte (v x)) (map g (numbers 0 m)) ++ r) (are_flags m b at && q)
  next_flags m v at h e a =
      next_agrees m b at (column (λ x. flag_byte (v x)) (map g (numbers 0 m))) h (flags_long v (map g (numbers 0 m)) m (length_places g 0 m)) (same_flags v g b at m h e) a

  pub next_texts : (k m : ℕ) (v : A → Bytes) (at : ℕ) {rest : ℕ} {r : Bytes} {q : Bool} → at + k * m ≤ length b
      → ((i : ℕ) → v (g i) ≡ text_at k b (at + k * i)) → Agrees rest b (at + k * m) r q → Agrees (k * m + rest) b at (column (λ x. fit k (v x)) (map g (numbers 0 m)) ++ r) (are_padded k m b at && q)
  next_texts k m v at h e a =
      next_agrees (k * m) b at (column (λ x. fit k (v x)) (map g (numbers 0 m))) h (texts_long k v (map g (numbers 0 m)) m (length_places g 0 m)) (same_texts k v g b at m h e) a

-- one text, and then the rest
pub next_text : (b : Bytes) (k at : ℕ) {rest : ℕ} {r : Bytes} {q : Bool} → at + k ≤ length b → Agrees rest b (at + k) r q → Agrees (k + rest) b at (fit k (text_at k b at) ++ r) (is_padded k b at && q)
unfolding is_padded text_at
next_text b k at h a = next_agrees k b at (fit k (text_at k b at)) h (length_fit k (text_at k b at)) (text_test (part k b at) k (length_part k b at h)) a
