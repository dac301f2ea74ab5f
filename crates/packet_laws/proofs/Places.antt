-- Where each argument of a packet lies: the bytes that the answered ends mark off are the arguments that were read. Assumes nothing.
use Prim.Native.Nat.{ℕ, zero, suc, ◌+◌, ◌-◌, ◌<◌, ◌≤◌}
use mathlib.Core.Path.{◌≡◌, refl, ap, ◌∙◌, sym}
use mathlib.Core.List.{List, [], ◌∷◌}
use native.Mathlib.Nat.{le_of_suc-le-suc, not-suc-le-zero, zero-add, add-zero, add-sub_cancel_left}
use native.Mathlib.Numerals.{add-one}
use native.Mathlib.Omega.{arith}
use borrow.Author.Tests.{lt-ltb, le-ltb, le-leb}
use lib.ListN.{length, get_or, take, drop, length-append, length-drop}
use lib.Seq.{take-length, take-append_seam, drop-append-add, drop-drop}
use Rattle.octets.specs.Bytes.{Bytes}
use Rattle.packet.specs.Arguments.{join, ends_from, ends_of}
use Rattle.packet.specs.Packet.{Direction, got, read}
use Rattle.packet.specs.Answers.{between, places, argument_at}
use Rattle.packet_laws.proofs.Splitting.{split_join}
use Rattle.packet_laws.proofs.Packets.{firsts, header_good, Got, read_got}

-- nothing ends at place 0
between_none : (s : Bytes) (before : ℕ) → between s before 0 ≡ []
unfolding between
between_none s before = rw (le-ltb before 0 (omega arith))

-- joined arguments begin with the first
first_joined : (a : Bytes) (bs : List Bytes) → take (length a) (join (a ∷ bs)) ≡ a
unfolding join
first_joined a [] = take-length a
first_joined a (b ∷ bs) = take-append_seam a _

first_short : (a : Bytes) (bs : List Bytes) → length a ≤ length (join (a ∷ bs))
unfolding join
first_short a [] = omega arith
first_short a (b ∷ bs) = rw length-append (omega arith)

module _ (s : Bytes) where
  between_first : (before : ℕ) (a : Bytes) (bs : List Bytes) → before < length s → drop (before + 1) s ≡ join (a ∷ bs) → between s before (before + 1 + length a) ≡ a
  unfolding between
  between_first before a bs h e =
      let l : length a ≤ length s - (before + 1) = rw (← length-drop (before + 1) s, e) (first_short a bs) in
      rw (lt-ltb before (before + 1 + length a) (omega arith), le-leb (before + 1 + length a) (length s) (omega arith), add-sub_cancel_left, e) (first_joined a bs)

  -- the arguments of data that starts after place `before`
  between_ends : (args : List Bytes) (before i : ℕ) → before < length s → drop (before + 1) s ≡ join args
      → between s (get_or (before ∷ ends_from (before + 1) args) i 0) (get_or (ends_from (before + 1) args) i 0) ≡ get_or args i []
  unfolding join
  between_ends [] before i h e = between_none s _
  between_ends (a ∷ bs) before zero h e = between_first before a bs h e
  between_ends (a ∷ []) before (suc i) h e = between_none s _
  between_ends (a ∷ (b ∷ bs)) before (suc i) h e =
      let n : ℕ = before + 1 + length a in
      let l : length s - (before + 1) ≡ length a + suc (length (join (b ∷ bs))) = sym (length-drop (before + 1) s) ∙ ap length e ∙ length-append a _ in
      let q : n + 1 ≡ before + 1 + (length a + 1) = omega arith in
      let d : drop (n + 1) s ≡ join (b ∷ bs) = rw (q, ← drop-drop (length a + 1) (before + 1) s, e) (drop-append-add a (0 ∷ join (b ∷ bs)) 1) in
      between_ends (b ∷ bs) n i (omega arith) d

firsts_at : (n i : ℕ) (l : List ℕ) (k : ℕ) → k < n → get_or (firsts n i l) k 0 ≡ get_or l (i + k) 0
firsts_at zero i l k h = absurd (not-suc-le-zero h)
firsts_at (suc n) i l zero h = rw add-zero
firsts_at (suc n) i l (suc k) h = let q : suc i + k ≡ i + suc k = omega arith in firsts_at n (suc i) l k (le_of_suc-le-suc h) ∙ rw q

-- the five places are those of the ends, counted from 0
place_at : (args : List Bytes) (i : ℕ) → i < 6 → get_or (places (ends_of 12 args)) i 0 ≡ get_or (11 ∷ ends_from 12 args) i 0
unfolding ends_of
place_at args zero h = refl
place_at args (suc i) h = firsts_at 5 0 (ends_from 12 args) i (le_of_suc-le-suc h) ∙ rw zero-add

-- argument i of a packet that was read; there is none, as in an absent one, where the list has none
pub argument_read : (w : Direction) (s : Bytes) (kind : ℕ) (args : List Bytes) → read w s ≡ got kind args
    → (i : ℕ) → i < 5 → argument_at s (ends_of 12 args) i ≡ get_or args i []
unfolding argument_at
argument_read w s kind args r i h =
    let g : Got w s kind args = read_got w s kind args r in
    let l : 12 ≤ length s = (header_good _ _ s g.headed).long in
    let e : join args ≡ drop 12 s = (split_join _ (drop 12 s) args g.splits).0 in
    rw (place_at args i (omega arith), place_at args (i + 1) (omega arith), add-one) (between_ends s args 11 i l (sym e))
