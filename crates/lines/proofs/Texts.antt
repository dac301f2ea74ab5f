-- A text fed byte by byte shows its lines, each cut to the buffer's length: for every text and every buffer. Assumes nothing.
use Prim.Native.Nat.{ℕ, zero, suc, ◌+◌, ◌<◌, ◌≤◌, zero-le, suc-le-suc}
use mathlib.Core.Path.{◌≡◌, refl, sym, ap, ◌∙◌}
use mathlib.Core.Bool.{Bool, true, false, not, cond}
use mathlib.Core.List.{[], ◌∷◌, ◌++◌, map}
use native.Mathlib.Nat.{not-suc-le-zero, le_of_suc-le-suc}
use native.Mathlib.Numerals.{add-one}
use native.Mathlib.Omega.{arith}
use borrow.Author.Tests.{lt-ltb, le-ltb, ltb-true, ltb-false, ne_eqb}
use lib.ListN.{length, take, length-set, length-append}
use lib.Seq.{take_all, take-append-le, take-suc-set, take-nil}
use lib.Dec.{ltb, eqb}
use Rattle.octets.specs.Bytes.{Bytes}
use Rattle.lines.specs.declared.Line.{Line}
use Rattle.lines.specs.Lines.{fresh, begun, Held, ending, longer, overflowing, added, fed, is_open}
use Rattle.lines.specs.Text.{lines_from, lines_of, cut, shown, shown_if, run, run_of}

-- s has come of a line: as much of it as there is room for stands in the buffer
pub record Stands (room : ℕ) (h : Held) (s : Bytes) : Type 0 where
  pub going : h.line.ended ≡ false
  pub size : length h.buffer ≡ room
  pub much : h.line.length ≡ length (take room s)
  pub front : take h.line.length h.buffer ≡ take room s
  pub over : h.line.overlong ≡ ltb room (length s)

stands_cut : (room : ℕ) (h : Held) (s : Bytes) → Stands room h s → shown h ≡ cut room s
stands_cut room h s st = λ i. record { overlong = st.over i; text = st.front i }

stands_fresh : (b : Bytes) → Stands (length b) (record { line = fresh; buffer = b }) []
stands_fresh b = record { going = refl; size = refl; much = sym (ap length (take-nil (length b))); front = sym (take-nil (length b)); over = sym (le-ltb (length b) 0 (omega arith)) }

-- ---- one byte more

shorter : (room : ℕ) (s : Bytes) → length (take room s) < room → length s < room
shorter zero s h = absurd (not-suc-le-zero h)
shorter (suc room) [] h = h
shorter (suc room) (y ∷ s) h = suc-le-suc (shorter room s (le_of_suc-le-suc h))

longer_than : (room : ℕ) (s : Bytes) → room ≤ length (take room s) → room ≤ length s
longer_than zero s h = zero-le
longer_than (suc room) [] h = h
longer_than (suc room) (y ∷ s) h = suc-le-suc (longer_than room s (le_of_suc-le-suc h))

module _ (room : ℕ) (h : Held) (s : Bytes) (x : ℕ) (st : Stands room h s) where
  short : h.line.length < length h.buffer → length s < room
  short k = shorter room s (omega (arith, st.much, st.size))

  stands_longer : h.line.length < length h.buffer → Stands room (longer h.line h.buffer x) (s ++ (x ∷ []))
  stands_longer k =
      let n = h.line.length in
      let m : length s < room = short k in
      let all : take room s ≡ s = take_all room s (omega arith) in
      let len : n ≡ length s = st.much ∙ ap length all in
      let whole : length (s ++ (x ∷ [])) ≡ length s + 1 = length-append s (x ∷ []) in
      let all' : take room (s ++ (x ∷ [])) ≡ s ++ (x ∷ []) = take_all room (s ++ (x ∷ [])) (omega arith) in
      record {
        going = refl;
        size = length-set h.buffer n x ∙ st.size;
        much = rw all' (omega arith);
        front = rw (all', add-one, take-suc-set h.buffer n x k, st.front, all);
        over = st.over ∙ le-ltb room (length s) (omega arith) ∙ sym (le-ltb room (length (s ++ (x ∷ []))) (omega arith));
      }

  stands_over : length h.buffer ≤ h.line.length → Stands room (overflowing h.line h.buffer) (s ++ (x ∷ []))
  stands_over k =
      let m : room ≤ length s = longer_than room s (omega (arith, st.much, st.size)) in
      let whole : length (s ++ (x ∷ [])) ≡ length s + 1 = length-append s (x ∷ []) in
      let same : take room (s ++ (x ∷ [])) ≡ take room s = take-append-le room s (x ∷ []) m in
      record {
        going = refl;
        size = st.size;
        much = rw same st.much;
        front = rw same st.front;
        over = sym (lt-ltb room (length (s ++ (x ∷ []))) (omega arith));
      }

-- ---- the next line, and the end of the text

-- an ended line counts as a fresh one
begun_begun : (t : Bool) (l : Line) → l.ended ≡ t → begun (begun l) ≡ begun l
unfolding begun
begun_begun true l e = rw e
begun_begun false l e = rw e

open_begun : (t : Bool) (l : Line) (b : Bytes) → l.ended ≡ t → shown_if (is_open (begun l)) (record { line = begun l; buffer = b }) [] ≡ shown_if (is_open l) (record { line = l; buffer = b }) []
unfolding begun is_open
open_begun true l b e = rw e
open_begun false l b e = rw e

run_begun : (l : Line) (b t : Bytes) → run (record { line = begun l; buffer = b }) t ≡ run (record { line = l; buffer = b }) t
unfolding run fed
run_begun l b [] = open_begun l.ended l b refl
run_begun l b (x ∷ t) = rw (begun_begun l.ended l refl)

open_stands : (room : ℕ) (h : Held) (s : Bytes) → Stands room h s → is_open h.line ≡ not (eqb (length s) 0)
unfolding is_open begun
open_stands room h [] st = rw (st.going, st.much, st.over, take-nil room, le-ltb room 0 zero-le)
open_stands zero h (y ∷ s) st = rw (st.going, st.much, st.over, lt-ltb 0 (length (y ∷ s)) (omega arith), ne_eqb (length (y ∷ s)) 0 (omega arith))
open_stands (suc room) h (y ∷ s) st = rw (st.going, st.much, lt-ltb 0 (length (y ∷ take room s)) (omega arith), ne_eqb (length (y ∷ s)) 0 (omega arith))

shown_last : (t : Bool) (room : ℕ) (h : Held) (s : Bytes) → Stands room h s → shown_if (not t) h [] ≡ map (cut room) (cond t [] (s ∷ []))
shown_last true room h s st = refl
shown_last false room h s st = rw (stands_cut room h s st)

-- ---- the whole text

-- where the byte is no line feed
module _ (room : ℕ) (h : Held) (s t : Bytes) (x : ℕ) (st : Stands room h s) (ih : (g : Held) → Stands room g (s ++ (x ∷ [])) → run g t ≡ map (cut room) (lines_from (s ++ (x ∷ [])) t)) where
  run_more : (fits : Bool) → ltb h.line.length (length h.buffer) ≡ fits
      → let g = cond fits (longer h.line h.buffer x) (overflowing h.line h.buffer) in
      shown_if g.line.ended g (run g t) ≡ map (cut room) (lines_from (s ++ (x ∷ [])) t)
  run_more true e = ih (longer h.line h.buffer x) (stands_longer room h s x st (ltb-true _ _ e))
  run_more false e = ih (overflowing h.line h.buffer) (stands_over room h s x st (ltb-false _ _ e))

-- the byte is the line feed, or it is not
run_byte : (feed : Bool) (room : ℕ) (h : Held) (s t : Bytes) (x : ℕ) → eqb x 10 ≡ feed → Stands room h s
    → ((g : Held) (r : Bytes) → Stands room g r → run g t ≡ map (cut room) (lines_from r t))
    → let g = added h.line h.buffer x in
    shown_if g.line.ended g (run g t) ≡ map (cut room) (cond feed (s ∷ lines_from [] t) (lines_from (s ++ (x ∷ [])) t))
unfolding added begun
run_byte true room h s t x e st ih =
    let next : run (ending h.line h.buffer) t ≡ map (cut room) (lines_from [] t) = sym (run_begun (ending h.line h.buffer).line h.buffer t) ∙ ih (record { line = fresh; buffer = h.buffer }) [] (rw st.size at (stands_fresh h.buffer)) in
    rw (e, next, stands_cut room h s st)
run_byte false room h s t x e st ih = rw e (run_more room h s t x st (λ g. ih g (s ++ (x ∷ []))) (ltb h.line.length (length h.buffer)) refl)

run_stands : (room : ℕ) (t : Bytes) (h : Held) (s : Bytes) → Stands room h s → run h t ≡ map (cut room) (lines_from s t)
unfolding run lines_from fed begun added
run_stands room [] h s st = rw (open_stands room h s st) (shown_last (eqb (length s) 0) room h s st)
run_stands room (x ∷ t) h s st = rw st.going (run_byte (eqb x 10) room h s t x refl st (run_stands room t))

pub text_lines : (buffer t : Bytes) → run_of buffer t ≡ map (cut (length buffer)) (lines_of t)
text_lines buffer t = run_stands (length buffer) t (record { line = fresh; buffer = buffer }) [] (stands_fresh buffer)
