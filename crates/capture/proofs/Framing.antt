-- How reading a line meets the definition of a frame: at each return the event of what is answered is the line's. Assumes nothing.
use Prim.Native.Nat.{ℕ, ◌<◌, ◌≤◌}
use mathlib.Core.Path.{◌≡◌, refl, sym, ap, ◌∙◌}
use mathlib.Core.Bool.{Bool, true, false}
use Rattle.std.specs.Prelude.{Option, Some, None}
use native.Mathlib.Omega.{arith}
use borrow.Author.Tests.{le-leb, lt-leb, leb-true, leb-false}
use lib.ListN.{length, take}
use lib.Seq.{take_all, length-take-le}
use lib.Dec.{leb}
use Rattle.octets.specs.Bytes.{Bytes}
use Rattle.hexadecimal.specs.Hex.{unhex}
use Rattle.hexadecimal.specs.Spelling.{Spelling, spelling}
use Rattle.hexadecimal.proofs.Writing.{hex_length}
use Rattle.hexadecimal.proofs.RoundTrip.{hex_unhex}
use Rattle.hexadecimal.proofs.Answers.{spelled_bytes, spelled_fits}
use Rattle.server.specs.Replay.{framed, frame, longest_line}
use Rattle.capture.specs.Frames.{frame_size}

-- ---- the digits of a line

-- "At most 2,080 digits"
pub long_line : (line : Bytes) → longest_line < length line → None ≡ frame line
unfolding frame
long_line line h = sym (rw (lt-leb (length line) longest_line h))

-- of a longer line one digit more than a frame has is enough to tell
pub cut_line : (n : ℕ) → longest_line < n → (line : Bytes) → frame (take n line) ≡ frame line
cut_line n h line = go (leb (length line) n) refl
  where
    go : (b : Bool) → leb (length line) n ≡ b → frame (take n line) ≡ frame line
    go true e = ap frame (take_all n line (leb-true (length line) n e))
    go false e =
        let l : n < length line = leb-false (length line) n e in
        sym (long_line (take n line) (omega (arith, length-take-le n line (omega arith)))) ∙ long_line line (omega arith)

module _ (line out o : Bytes) (r : Option ℕ) (e : record { answer = r; output = o } ≡ spelling line out) (h : length line ≤ longest_line) where
  module _ (q : r ≡ None) (room : length out ≡ frame_size) where
    -- so few digits have room: reading them is bad only where they spell no bytes
    unspelled_line : (u : Option Bytes) → unhex line ≡ u → unhex line ≡ None
    unfolding spelling
    unspelled_line None p = p
    unspelled_line (Some b) p =
        let l : length b ≤ length out = omega (arith, ap length (hex_unhex line b p), hex_length b) in
        let a : r ≡ Some (length b) = ap (λ (s : Spelling). s.answer) e ∙ rw (p, le-leb (length b) (length out) l) in
        let y : ◌≡◌ {A = ℕ} 0 1 = cc in
        absurd (omega arith)

    pub bad_line : None ≡ frame line
    unfolding frame
    bad_line = sym (rw (le-leb (length line) longest_line h, unspelled_line (unhex line) refl))

  module _ (n : ℕ) (q : r ≡ Some n) where
    known : record { answer = Some n; output = o } ≡ spelling line out
    known = ap (λ (x : Option ℕ). record { answer = x; output = o }) (sym q) ∙ e

    pub line_fits : n ≤ length o
    line_fits = spelled_fits line out o n known

    -- two digits a byte
    pub line_short : n ≤ frame_size
    line_short =
        let l : length (take n o) ≡ n = length-take-le n o line_fits in
        omega (arith, ap length (hex_unhex line (take n o) (spelled_bytes line out o n known)), hex_length (take n o))

    pub line_frame : framed (Some (take n o)) ≡ frame line
    unfolding frame
    line_frame = sym (rw (le-leb (length line) longest_line h, spelled_bytes line out o n known))
