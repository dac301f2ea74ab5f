-- Laws of reading: what each return of the readers answers, from what the code has found by then. Assumes nothing.
use Prim.Native.Nat.{ℕ, zero, suc, ◌+◌, ◌-◌, ◌^◌, ◌<◌, ◌≤◌, zero-le}
use mathlib.Core.Path.{◌≡◌, refl, sym, ◌∙◌}
use mathlib.Core.Bool.{Bool, true, false, not, cond}
use mathlib.Core.List.{[]}
use native.Mathlib.Omega.{arith}
use borrow.Author.Tests.{lt-ltb, le-ltb, le-leb, lt-leb, eq-eqb, ne_eqb, not-true, not-false, ltb-false, eqb-true}
use lib.ListN.{length, get_or, take, drop, length-drop, get_or-eq_default}
use lib.Dec.{ltb, eqb}
use Rattle.octets.specs.Bytes.{Bytes, starts_with, number_at}
use Rattle.octets.proofs.Strings.{rest_part}
use Rattle.packet.specs.declared.Ends.{Ends}
use Rattle.packet.specs.declared.Refusal.{Refusal}
use Rattle.packet.specs.declared.Refusal.TheVariants.{Short, Magic, Size, Length, ForeignType, Arguments}
use Rattle.packet.specs.declared.Shape.{Shape}
use Rattle.packet.specs.Layout.{is_own, request_shape, response_shape, rules_of}
use Rattle.packet.specs.Arguments.{Parts, bad, parts, split, answered}
use Rattle.packet.specs.Refusals.{refusal_of}
use Rattle.std.specs.Prelude.{Option, Some, None, Result, Ok, Err}
use Rattle.std.specs.Option.{ok_or}
use Rattle.packet.specs.Packet.{Direction, header, argued, body, read}
use Rattle.packet.specs.Answers.{Read, found, answer_of, granted, header_of, between, places, argument_at}

-- ---- the header

module _ (magic : Bytes) (most : ℕ) (s : Bytes) where
  pub header_5 : length s < 12 → Err Short ≡ header_of magic most s
  unfolding header_of header
  header_5 h = rw (lt-ltb _ _ h)

  module _ (h5 : 12 ≤ length s) (r : Bool) (e6 : r ≡ starts_with s magic) where
    pub header_6 : not r ≡ true → Err Magic ≡ header_of magic most s
    unfolding header_of header
    header_6 h = rw (le-ltb _ _ h5, ← e6, h)

    module _ (h6 : not r ≡ false) (z : ℕ) (e7 : z ≡ number_at s 8) where
      pub header_7 : most < z → Err Size ≡ header_of magic most s
      unfolding header_of header
      header_7 h = simp (le-ltb _ _ h5, ← e6, h6, ← e7, lt-ltb _ _ h)

      pub header_8 : z ≤ most → (length s ≡ 12 + z → ⊥) → Err Length ≡ header_of magic most s
      unfolding header_of header
      header_8 h n = simp (le-ltb _ _ h5, ← e6, h6, ← e7, le-ltb _ _ h, ne_eqb _ _ n)

      pub header_good : (kind : ℕ) → z ≤ most → length s ≡ 12 + z → kind ≡ number_at s 4 → Ok kind ≡ header_of magic most s
      unfolding header_of header
      header_good kind h e k = simp (le-ltb _ _ h5, ← e6, h6, ← e7, le-ltb _ _ h, eq-eqb _ _ e, ← k)

-- ---- what a header's answer says

granted_good : (n m kind : ℕ) → Ok kind ≡ granted n m → (n ≡ 0) × (kind ≡ m)
granted_good zero m kind e = let q : kind ≡ m = cc in (refl, q)
granted_good (suc n) m kind e = let z : ◌≡◌ {A = ℕ} 0 1 = cc in absurd (omega arith)

header_steps : (magic : Bytes) (most : ℕ) (s : Bytes) (b5 b6 b7 b8 : Bool) → ltb (length s) 12 ≡ b5 → ltb most (number_at s 8) ≡ b7 → eqb (length s) (12 + number_at s 8) ≡ b8
    → ◌≡◌ {A = ℕ} (cond b5 5 (cond b6 6 (cond b7 7 (cond b8 0 8)))) 0 → (12 ≤ length s) × (length s ≤ 12 + most)
header_steps magic most s true b6 b7 b8 e5 e7 e8 h = absurd (omega arith)
header_steps magic most s false true b7 b8 e5 e7 e8 h = absurd (omega arith)
header_steps magic most s false false true b8 e5 e7 e8 h = absurd (omega arith)
header_steps magic most s false false false false e5 e7 e8 h = absurd (omega arith)
header_steps magic most s false false false true e5 e7 e8 h =
    let l : 12 ≤ length s = ltb-false (length s) 12 e5 in
    let k : length s ≡ 12 + number_at s 8 = eqb-true (length s) (12 + number_at s 8) e8 in
    let m : number_at s 8 ≤ most = ltb-false most (number_at s 8) e7 in
    (l, omega arith)

-- a packet with a good header has its twelve bytes, and at most so much data
pub good_length : (magic : Bytes) (most : ℕ) (s : Bytes) (kind : ℕ) → Ok kind ≡ header_of magic most s → (12 ≤ length s) × (length s ≤ 12 + most)
unfolding header_of header
good_length magic most s kind e =
    header_steps magic most s (ltb (length s) 12) (not (starts_with s magic)) (ltb most (number_at s 8)) (eqb (length s) (12 + number_at s 8)) refl refl refl (granted_good _ _ kind e).0

-- ---- the body

-- the answer for a type of its own direction, from where its arguments end
abbrev pub split_answer : ℕ → Option Ends → Read
split_answer kind None = Err Arguments
split_answer kind (Some ends) = found kind ends

argued_answer : (kind : ℕ) (p : Parts) → split_answer kind (answered 12 p) ≡ answer_of (argued kind p)
unfolding answer_of
argued_answer kind bad = refl
argued_answer kind (parts as') = refl

module _ (shape : Shape) (kind : ℕ) (d : Bytes) (own : Bool) (e : own ≡ is_own shape) where
  pub body_foreign : not own ≡ true → Err ForeignType ≡ answer_of (body shape kind d)
  unfolding body answer_of
  body_foreign h = rw (sym e ∙ not-true own h)

  pub body_own : not own ≡ false → (o : Option Ends) → o ≡ answered 12 (split (rules_of shape) d) → split_answer kind o ≡ answer_of (body shape kind d)
  unfolding body
  body_own h o q = rw (q, sym e ∙ not-false own h) (argued_answer kind (split (rules_of shape) d))

  -- data that does not split
  pub body_unsplit : not own ≡ false → (o : Option Ends) (r : Refusal) → ◌≡◌ {A = Result Ends Refusal} (Err r) (ok_or o Arguments) → o ≡ None
      → o ≡ answered 12 (split (rules_of shape) d) → Err r ≡ answer_of (body shape kind d)
  body_unsplit h o r p z q = let k : r ≡ Arguments = cc in rw k (body_own h None (sym z ∙ q))

-- ---- the whole packet

-- what a header's answer leaves to the body
module _ (w : Direction) (s : Bytes) where
  read_step : (n kind : ℕ) → header w.magic w.most s ≡ n → kind ≡ number_at s 4 → n ≡ 0 → answer_of (read w s) ≡ answer_of (body (w.shape kind) kind (drop 12 s))
  unfolding read
  read_step n kind e k z = rw (e ∙ z, k)

  refused_step : (n : ℕ) (m : Refusal) → Err m ≡ granted n (number_at s 4) → header w.magic w.most s ≡ n → Err m ≡ answer_of (read w s)
  unfolding read answer_of
  refused_step zero m e h = let z : ◌≡◌ {A = ℕ} 0 1 = cc in absurd (omega arith)
  refused_step (suc n) m e h = let q : m ≡ refusal_of (suc n) = cc in rw (h, q)

  pub read_refused : (m : Refusal) → Err m ≡ header_of w.magic w.most s → Err m ≡ answer_of (read w s)
  unfolding header_of
  read_refused m e = refused_step (header w.magic w.most s) m e refl

  pub read_good : (kind : ℕ) (shape : Shape) (r : Read) → Ok kind ≡ header_of w.magic w.most s → shape ≡ w.shape kind
      → r ≡ answer_of (body shape kind (take (length s - 12) (drop 12 s))) → r ≡ answer_of (read w s)
  unfolding header_of
  read_good kind shape r e q h =
      let k = granted_good (header w.magic w.most s) (number_at s 4) kind e in
      h ∙ rw (rest_part, q) (sym (read_step (header w.magic w.most s) kind refl k.1 k.0))

-- ---- one argument

module _ (s : Bytes) (before end : ℕ) where
  pub part_empty : end ≤ before → [] ≡ between s before end
  unfolding between
  part_empty h = rw (le-ltb _ _ h)

  pub part_outside : before < end → length s < end → [] ≡ between s before end
  unfolding between
  part_outside h k = rw (lt-ltb _ _ h, lt-leb _ _ k)

  pub part_inside : before < end → end ≤ length s → take (end - (before + 1)) (drop (before + 1) s) ≡ between s before end
  unfolding between
  part_inside h k = rw (lt-ltb _ _ h, le-leb _ _ k)

-- no packet has a sixth argument
pub argument_none : (s : Bytes) (ends : Ends) (i : ℕ) → 4 < i → [] ≡ argument_at s ends i
unfolding argument_at
argument_none s ends i h =
    let z : get_or (places ends) (i + 1) 0 ≡ 0 = get_or-eq_default (places ends) 0 {n = i + 1} (omega arith) in
    rw z (part_empty s (get_or (places ends) i 0) 0 zero-le)

-- ---- what a reader asks of its parts

-- the data of a packet with a good header is short
pub data_short : (magic : Bytes) (most : ℕ) (s : Bytes) (kind : ℕ) → most ≤ 1088 → Ok kind ≡ header_of magic most s → length (take (length s - 12) (drop 12 s)) < 2 ^ 31
data_short magic most s kind h e = let l = good_length magic most s kind e in rw rest_part (omega (arith, length-drop 12 s, l.0, l.1))
