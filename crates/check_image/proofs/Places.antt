-- The padded rule byte by byte is the rule place by place: a place is padded exactly if each of its bytes but the last is not zero or is
-- followed by a zero; and a place that begins with a zero exactly if all its bytes are zero. Assumes nothing.
use Prim.Native.Nat.{ℕ, zero, suc, ◌+◌, ◌-◌, ◌*◌, ◌/◌, ◌%◌, ◌<◌, ◌≤◌}
use mathlib.Core.Path.{◌≡◌, refl, sym, ap, ◌∙◌}
use mathlib.Core.Bool.{Bool, true, false, not, cond, ◌&&◌, ◌||◌}
use mathlib.Core.List.{List, [], ◌∷◌, ◌++◌}
use native.Mathlib.Nat.{add-zero, zero-add, add-suc, suc-add, add_assoc, zero-mul, mul-add, mul_assoc}
use Rattle.std.proofs.Math.Nat.{mul-add-mod_self_left, mod-eq_of_lt}
use native.Mathlib.Omega.{arith}
use borrow.Author.Tests.{leb-true, eqb-true, eqb-false, eq-eqb, ne_eqb}
use lib.Bits.{bit_or}
use lib.ListN.{length, get_or, take, drop}
use lib.Seq.{drop-cons}
use lib.Dec.{eqb, leb}
use Rattle.octets.specs.Bytes.{Bytes, same, first_zero, every}
use Rattle.lists.specs.Lists.{all, numbers}
use Rattle.server.specs.Layout.{text_at}
use Rattle.table_laws.specs.Tests.{part, is_zero, is_flag, is_padded, are_flags, are_padded}
use Rattle.table_laws.proofs.Same.{field_inside}
use Rattle.lists.proofs.Rows.{below_at}
use Rattle.table_laws.proofs.Columns.{places_at}
use Rattle.table_passes.proofs.Tests.{or_none_lem, and_same, and_true, same_below, all_append, all_more, all_shift, runs}
use Rattle.check_image.specs.Padded.{zero_at, empty_at, after_end, is_followed, last_or_followed, last_of}

-- ---- single bytes

-- no slack after a byte x, where l marks the last byte of a place and y is the next one
pub no_slack : (l x y s : ℕ) → s ≡ after_end (bit_or x l) y → eqb s 0 ≡ not (eqb l 0) || (not (eqb x 0) || eqb y 0)
no_slack l x y s e = rw (e, or_none_lem x l) (go (eqb l 0) (eqb x 0))
  where
    go : (p q : Bool) → eqb (cond (q && p) y 0) 0 ≡ not p || (not q || eqb y 0)
    go true true = refl
    go true false = refl
    go false true = refl
    go false false = refl

-- ---- a list of bytes

chain : Bytes → Bool
chain [] = true
chain (x ∷ []) = true
chain (x ∷ (y ∷ s)) = (not (eqb x 0) || eqb y 0) && chain (y ∷ s)

after_zero : (s : Bytes) → every is_zero s ≡ chain (0 ∷ s)
unfolding chain every
after_zero [] = refl
after_zero (zero ∷ s) = after_zero s
after_zero (suc y ∷ s) = rw (ne_eqb (suc y) 0 (λ e. omega arith))

padded_chain : (s : Bytes) → every is_zero (drop (first_zero s) s) ≡ chain s
unfolding chain every first_zero
padded_chain [] = refl
padded_chain (zero ∷ s) = after_zero s
padded_chain (suc x ∷ []) = rw (ne_eqb (suc x) 0 (λ e. omega arith))
padded_chain (suc x ∷ (y ∷ s)) = rw (ne_eqb (suc x) 0 (λ e. omega arith)) (padded_chain (y ∷ s))

-- ---- bytes of a table

-- the first byte of a part
pub part_cons : (n : ℕ) (b : Bytes) (at : ℕ) → at < length b → part (suc n) b at ≡ get_or b at 0 ∷ part n b (suc at)
part_cons n b at h = ap (λ (s : Bytes). take (suc n) s) (drop-cons b at 0 h)

every_from : (f : ℕ → Bool) (b : Bytes) (at i n : ℕ) → at + i + n ≤ length b → every f (part n b (at + i)) ≡ all (λ k. f (get_or b (at + k) 0)) (numbers i n)
unfolding every
every_from f b at i zero h = refl
every_from f b at i (suc n) h =
    let e : suc (at + i) ≡ at + suc i = sym (add-suc at i) in
    rw (part_cons n b (at + i) (omega arith), e) (ap (λ (x : Bool). f (get_or b (at + i) 0) && x) (every_from f b at (suc i) n (omega arith)))

pub every_each : (f : ℕ → Bool) (n : ℕ) (b : Bytes) (at : ℕ) → at + n ≤ length b → every f (part n b at) ≡ all (λ k. f (get_or b (at + k) 0)) (numbers 0 n)
every_each f n b at h = ap (λ (i : ℕ). every f (part n b i)) (sym (add-zero at)) ∙ every_from f b at 0 n (omega arith)

pub flags_each : (n : ℕ) (b : Bytes) (at : ℕ) → at + n ≤ length b → are_flags n b at ≡ all (λ k. leb (get_or b (at + k) 0) 1) (numbers 0 n)
unfolding are_flags
flags_each n b at h = every_each is_flag n b at h

-- a flag that is not 1 is 0
flag_none : (x : ℕ) → leb x 1 ≡ true → eqb x 0 ≡ not (eqb x 1)
flag_none x h = go (eqb x 1) refl
  where
    go : (t : Bool) → eqb x 1 ≡ t → eqb x 0 ≡ not t
    go true e = let r : x ≡ 1 = eqb-true x 1 e in ne_eqb x 0 (λ z. omega arith)
    go false e = let n : x ≡ 1 → ⊥ = eqb-false x 1 e in let l = leb-true x 1 h in eq-eqb x 0 (omega arith)

pub flag_at : (n : ℕ) (b : Bytes) (at : ℕ) → at + n ≤ length b → are_flags n b at ≡ true → (k : ℕ) → k < n → eqb (get_or b (at + k) 0) 0 ≡ not (eqb (get_or b (at + k) 0) 1)
flag_at n b at h e k g = flag_none (get_or b (at + k) 0) (below_at (λ i. leb (get_or b (at + i) 0) 1) n k (sym (flags_each n b at h) ∙ e) g)

-- a text is empty exactly if its place begins with a zero
pub empty_text : (n : ℕ) (b : Bytes) (at : ℕ) → at < length b → same (text_at (suc n) b at) [] ≡ eqb (get_or b at 0) 0
unfolding text_at same first_zero
empty_text n b at h = rw (drop-cons b at 0 h) (go (eqb (get_or b at 0) 0))
  where
    go : (t : Bool) → same (take (cond t 0 (suc (first_zero (take n (drop (suc at) b))))) (get_or b at 0 ∷ take n (drop (suc at) b))) [] ≡ t
    go true = refl
    go false = refl

chain_each : (b : Bytes) (at i n : ℕ) → at + i + n < length b → chain (part (suc n) b (at + i)) ≡ all (λ k. is_followed b (at + k)) (numbers i n)
unfolding chain
chain_each b at i zero h = rw (part_cons 0 b (at + i) (omega arith))
chain_each b at i (suc n) h =
    let e : suc (at + i) ≡ at + suc i = sym (add-suc at i) in
    let f : at + i + 1 ≡ at + suc i = omega arith in
    let g = chain_each b at (suc i) n (omega arith) in
    rw (part_cons (suc n) b (at + i) (omega arith), e, part_cons n b (at + suc i) (omega arith), f)
    (ap (λ (x : Bool). (not (eqb (get_or b (at + i) 0) 0) || eqb (get_or b (at + suc i) 0) 0) && x) (rw (part_cons n b (at + suc i) (omega arith)) at g))

-- a place of suc n bytes
pub padded_each : (n : ℕ) (b : Bytes) (at : ℕ) → at + n < length b → is_padded (suc n) b at ≡ all (λ k. is_followed b (at + k)) (numbers 0 n)
unfolding is_padded
padded_each n b at h =
    padded_chain (part (suc n) b at) ∙ ap (λ (i : ℕ). chain (part (suc n) b i)) (sym (add-zero at)) ∙ chain_each b at 0 n (omega arith)

-- a place that begins with a zero
pub empty_each : (n : ℕ) (b : Bytes) (at : ℕ) → at + suc n ≤ length b → eqb (get_or b at 0) 0 ≡ true → is_padded (suc n) b at ≡ all (zero_at b at) (numbers 0 (suc n))
unfolding is_padded first_zero
empty_each n b at h e =
    ap (λ (s : Bytes). every is_zero (drop (first_zero s) s)) (part_cons n b at (omega arith))
    ∙ ap (λ (t : Bool). every is_zero (drop (cond t 0 (suc (first_zero (part n b (suc at))))) (get_or b at 0 ∷ part n b (suc at)))) e
    ∙ ap (every is_zero) (sym (part_cons n b at (omega arith))) ∙ every_each is_zero (suc n) b at h

-- ---- runs of places

-- r runs of m places of w bytes
pub padded_runs : (w m r : ℕ) (b : Bytes) (at : ℕ) → all (λ i. are_padded w m b (at + w * m * i)) (numbers 0 r) ≡ are_padded w (m * r) b at
unfolding are_padded
padded_runs w m r b at =
    sym (runs (λ i. is_padded w b (at + w * i)) m r
    ∙ same_below (λ i. all (λ j. is_padded w b (at + w * (m * i + j))) (numbers 0 m)) (λ i. all (λ j. is_padded w b (at + w * m * i + w * j)) (numbers 0 m)) r
    (λ i _. same_below (λ j. is_padded w b (at + w * (m * i + j))) (λ j. is_padded w b (at + w * m * i + w * j)) m (λ j _. ap (is_padded w b) (place i j))))
  where
    place : (i j : ℕ) → at + w * (m * i + j) ≡ at + w * m * i + w * j
    place i j = ap (λ (x : ℕ). at + x) (mul-add w (m * i) j ∙ ap (λ (x : ℕ). x + w * j) (sym (mul_assoc w m i))) ∙ sym (add_assoc at (w * m * i) (w * j))

-- m places that all begin with a zero
pub empty_run : (n m : ℕ) (b : Bytes) (at : ℕ) → at + suc n * m ≤ length b → all (empty_at b at (suc n)) (numbers 0 m) ≡ true
    → all (zero_at b at) (numbers 0 (suc n * m)) ≡ are_padded (suc n) m b at
unfolding are_padded
empty_run n m b at h e =
    runs (zero_at b at) (suc n) m
    ∙ same_below (λ k. all (λ j. zero_at b at (suc n * k + j)) (numbers 0 (suc n))) (λ k. is_padded (suc n) b (at + suc n * k)) m (λ k g. place k g)
  where
    place : (k : ℕ) → k < m → all (λ j. zero_at b at (suc n * k + j)) (numbers 0 (suc n)) ≡ is_padded (suc n) b (at + suc n * k)
    place k g =
        same_below (λ j. zero_at b at (suc n * k + j)) (zero_at b (at + suc n * k)) (suc n) (λ j _. ap (λ (x : ℕ). eqb (get_or b x 0) 0) (sym (add_assoc at (suc n * k) j)))
        ∙ sym (empty_each n b (at + suc n * k) (field_inside (suc n) m at k (length b) h g) (below_at (empty_at b at (suc n)) m k e g))

-- ---- masks

-- the bytes of m places of suc n, from place i on, that are not the last of their place
abbrev pub insides : ℕ → ℕ → ℕ → List ℕ
insides n i zero = []
insides n i (suc m) = numbers (suc n * i + 0) n ++ insides n (suc i) m

pub insides_padded : (n : ℕ) (b : Bytes) (at i m : ℕ) → at + suc n * (i + m) ≤ length b
    → all (λ k. is_followed b (at + k)) (insides n i m) ≡ all (λ j. is_padded (suc n) b (at + suc n * j)) (numbers i m)
insides_padded n b at i zero h = refl
insides_padded n b at i (suc m) h =
    let e : at + suc n * (suc i + m) ≤ length b = rw (suc-add i m, ← add-suc i m) h in
    all_append (λ k. is_followed b (at + k)) (numbers (suc n * i + 0) n) (insides n (suc i) m)
    ∙ and_same
    (all_shift (λ k. is_followed b (at + k)) (suc n * i) 0 n
    ∙ same_below (λ k. is_followed b (at + (suc n * i + k))) (λ k. is_followed b (at + suc n * i + k)) n (λ k _. ap (is_followed b) (sym (add_assoc at (suc n * i) k)))
    ∙ sym (padded_each n b (at + suc n * i) (omega (arith, field_inside (suc n) (i + suc m) at i (length b) h (omega arith)))))
    (insides_padded n b at (suc i) m e)

-- a place of suc n bytes by its mask: only the last byte may be followed by anything
masked : (n : ℕ) (b : Bytes) (at : ℕ) → at + n < length b → all (λ j. eqb j n || is_followed b (at + j)) (numbers 0 (suc n)) ≡ is_padded (suc n) b at
masked n b at h =
    all_more (λ j. eqb j n || is_followed b (at + j)) 0 n
    ∙ and_same
    (same_below (λ j. eqb j n || is_followed b (at + j)) (λ j. is_followed b (at + j)) n (λ j g. ap (λ (t : Bool). t || is_followed b (at + j)) (ne_eqb j n (λ e. omega arith))))
    (ap (λ (k : ℕ). eqb k n || is_followed b (at + k)) (zero-add n) ∙ ap (λ (t : Bool). t || is_followed b (at + n)) (eq-eqb n n refl))
    ∙ and_true (all (λ j. is_followed b (at + j)) (numbers 0 n)) ∙ sym (padded_each n b at h)

-- m places of suc n bytes are t bytes, whose mask is `last`
module _ (n m t : ℕ) (block : suc n * m ≡ t) (last : Bytes) (mask : (i : ℕ) → i < t → get_or last i 0 ≡ cond (eqb (i % suc n) n) 1 0) where
  mask_at : (b : Bytes) (at k j : ℕ) → k < m → j < suc n → last_or_followed last b at (suc n * k + j) ≡ eqb j n || is_followed b (at + suc n * k + j)
  mask_at b at k j g h =
      let inside : suc n * k + j < t = rw (← block) (omega (arith, field_inside (suc n) m 0 k (suc n * m) (omega arith) g)) in
      let remains : (suc n * k + j) % suc n ≡ j = mul-add-mod_self_left (suc n) k j ∙ mod-eq_of_lt h in
      rw (mask (suc n * k + j) inside, remains, add_assoc at (suc n * k) j) (go (eqb j n))
    where
      go : (x : Bool) → not (eqb (cond x 1 0) 0) || is_followed b (at + (suc n * k + j)) ≡ x || is_followed b (at + (suc n * k + j))
      go true = refl
      go false = refl

  block_padded : (b : Bytes) (at : ℕ) → at + t ≤ length b → all (last_or_followed last b at) (numbers 0 t) ≡ are_padded (suc n) m b at
  unfolding are_padded
  block_padded b at h =
      ap (λ (x : ℕ). all (last_or_followed last b at) (numbers 0 x)) (sym block) ∙ runs (last_or_followed last b at) (suc n) m
      ∙ same_below (λ k. all (λ j. last_or_followed last b at (suc n * k + j)) (numbers 0 (suc n))) (λ k. is_padded (suc n) b (at + suc n * k)) m
      (λ k g. same_below (λ j. last_or_followed last b at (suc n * k + j)) (λ j. eqb j n || is_followed b (at + suc n * k + j)) (suc n) (λ j l. mask_at b at k j g l)
      ∙ masked n b (at + suc n * k) (omega (arith, field_inside (suc n) m at k (length b) (rw block h) g)))

  pub blocks_padded : (r : ℕ) (b : Bytes) (at : ℕ) → at + t * r ≤ length b → all (λ i. all (last_or_followed last b (at + t * i)) (numbers 0 t)) (numbers 0 r) ≡ are_padded (suc n) (m * r) b at
  blocks_padded r b at h =
      same_below (λ i. all (last_or_followed last b (at + t * i)) (numbers 0 t)) (λ i. are_padded (suc n) m b (at + t * i)) r
      (λ i g. block_padded b (at + t * i) (field_inside t r at i (length b) h g))
      ∙ ap (λ (x : ℕ). all (λ i. are_padded (suc n) m b (at + x * i)) (numbers 0 r)) (sym block) ∙ padded_runs (suc n) m r b at

-- the mask of 64 bytes
last_at : (n i : ℕ) → i < 64 → get_or (last_of (suc n)) i 0 ≡ cond (eqb (i % suc n) n) 1 0
unfolding last_of
last_at n i h = let e : suc n - 1 ≡ n = omega arith in rw e at (places_at {A = ℕ} (λ k. cond (eqb (k % suc n) (suc n - 1)) 1 0) 0 64 i h)

-- ---- as the code passes places of w bytes: m of them are a block of 64, and a run has r blocks

all_of_empty : (w m k : ℕ) (b : Bytes) (at : ℕ) → 0 < w → w * m ≡ k → at + k ≤ length b → all (empty_at b at w) (numbers 0 m) ≡ true → all (zero_at b at) (numbers 0 k) ≡ are_padded w m b at
all_of_empty zero m k b at p e h t = absurd (omega arith)
all_of_empty (suc n) m k b at p e h t = ap (λ (x : ℕ). all (zero_at b at) (numbers 0 x)) (sym e) ∙ empty_run n m b at (rw e h) t

all_of_blocks : (w m r : ℕ) (last b : Bytes) (at : ℕ) → 0 < w → w * m ≡ 64 → last ≡ last_of w → at + 64 * r ≤ length b
    → all (λ i. all (last_or_followed last b (at + 64 * i)) (numbers 0 64)) (numbers 0 r) ≡ are_padded w (m * r) b at
all_of_blocks zero m r last b at p e q h = absurd (omega arith)
all_of_blocks (suc n) m r last b at p e q h = blocks_padded n m 64 e last (λ i g. rw q (last_at n i g)) r b at h

module _ (w r : ℕ) (e : w * (64 / w) ≡ 64) where
  run_long : w * (64 / w * r) ≡ 64 * r
  run_long = sym (mul_assoc w (64 / w) r) ∙ ap (λ (x : ℕ). x * r) e

  a_byte : 0 < w
  a_byte = go w e
    where
      go : (w : ℕ) → w * (64 / w) ≡ 64 → 0 < w
      go zero e = absurd (omega (arith, e, zero-mul (64 / 0)))
      go (suc n) e = omega arith

  -- all places of a run are there, and a place has a byte
  pub run_inside : (at n : ℕ) → at + 64 * r + 1 ≤ n → (at + w * (64 / w * r) ≤ n) × (0 < w)
  run_inside at n h = (rw run_long (omega arith), a_byte)

  module _ (b : Bytes) (at : ℕ) where
    pub run_empty : at + 64 * r + 1 ≤ length b → all (empty_at b at w) (numbers 0 (64 / w * r)) ≡ true → all (zero_at b at) (numbers 0 (64 * r)) ≡ are_padded w (64 / w * r) b at
    run_empty h t = all_of_empty w (64 / w * r) (64 * r) b at a_byte run_long (omega arith) t

    pub run_followed : (last : Bytes) → at + 64 * r + 1 ≤ length b → last ≡ last_of w
        → all (λ i. all (last_or_followed last b (at + 64 * i)) (numbers 0 64)) (numbers 0 r) ≡ are_padded w (64 / w * r) b at
    run_followed last h m = all_of_blocks w (64 / w) r last b at a_byte e m (omega arith)

    pub run_after_run : (n : ℕ) → all (λ k. are_padded w (64 / w * r) b (at + 64 * r * k)) (numbers 0 n) ≡ are_padded w (64 / w * r * n) b at
    run_after_run n =
        ap (λ (x : ℕ). all (λ k. are_padded w (64 / w * r) b (at + x * k)) (numbers 0 n)) (sym run_long) ∙ padded_runs w (64 / w * r) n b at
