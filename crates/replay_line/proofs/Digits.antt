-- How laying lines of digits meets the definition: one line, and the lines of an answer. Assumes nothing.
use Prim.Native.Nat.{ℕ, ◌+◌, ◌*◌, ◌≤◌}
use mathlib.Core.Path.{◌≡◌, refl, ap}
use Rattle.std.specs.Prelude.{None}
use mathlib.Core.List.{List, [], ◌∷◌, ◌++◌}
use native.Mathlib.Omega.{arith}
use lib.ListN.{length, length-append}
use Rattle.octets.specs.Bytes.{Bytes}
use Rattle.octets.specs.Put.{put}
use Rattle.octets.proofs.Laying.{put_put, length_put}
use Rattle.hexadecimal.specs.Hex.{hex}
use Rattle.hexadecimal.proofs.Writing.{hex_length}
use Rattle.server.specs.Table.{Table}
use Rattle.server.specs.Replay.{answer_lines, no_frame}
use Rattle.capture.specs.Packets.{packet_lines}
use Rattle.replay_line.specs.Replayed.{in_digits, line_of}

-- ---- one line

-- two digits a byte, and the line end
pub line_length : (p : Bytes) → length (line_of p) ≡ 2 * length p + 1
line_length p = omega (arith, length-append (hex p) (10 ∷ []), hex_length p)

-- a packet's line is at most three times the packet
pub line_short : (p : Bytes) → 13 ≤ length p → length (line_of p) ≤ length p * 3
line_short p h = omega (arith, line_length p)

pub digits_room : (p : Bytes) (at k : ℕ) → at + length (line_of p) ≤ k → at + length (hex p) ≤ k
digits_room p at k h = omega (arith, length-append (hex p) (10 ∷ []))

module _ (p x₀ x : Bytes) (at end : ℕ) (q : end ≡ at + length (hex p)) where
  pub line_room : at + length (line_of p) ≤ length x₀ → x ≡ put at (hex p) x₀ → end + 1 ≤ length x
  line_room h e = omega (arith, length-append (hex p) (10 ∷ []), ap length e, length_put at (hex p) x₀)

  pub line_place : (r : ℕ) → r ≡ end + 1 → r ≡ at + length (line_of p)
  line_place r e = omega (arith, length-append (hex p) (10 ∷ []))

  pub line_laid : (y : Bytes) → x ≡ put at (hex p) x₀ → y ≡ put end (10 ∷ []) x → y ≡ put at (line_of p) x₀
  line_laid y e f = rw (f, e, q) (put_put at (hex p) (10 ∷ []) x₀)

-- ---- an answer's lines

pub lines_answer : (ps : List Bytes) (n : ℕ) → answer_lines ps n ≡ packet_lines line_of ps ++ line_of (n ∷ [])
unfolding answer_lines packet_lines hex
lines_answer ps n = refl

-- what isn't a frame is answered by 16 alone
pub no_frame_digits : (u t : Table) → in_digits None [] 16 u t ≡ no_frame
unfolding answer_lines
no_frame_digits u t = refl

module _ (ps : List Bytes) (n end : ℕ) (e : end ≡ 0 + length (packet_lines line_of ps)) where
  pub answer_place : (r : ℕ) → r ≡ end + length (line_of (n ∷ [])) → r ≡ 0 + length (answer_lines ps n)
  answer_place r q = omega (arith, length-append (packet_lines line_of ps) (line_of (n ∷ [])), ap length (lines_answer ps n))

  pub answer_laid : (x₀ x y : Bytes) → x ≡ put 0 (packet_lines line_of ps) x₀ → y ≡ put end (line_of (n ∷ [])) x → y ≡ put 0 (answer_lines ps n) x₀
  answer_laid x₀ x y f g = rw (lines_answer ps n, g, f, e) (put_put 0 (packet_lines line_of ps) (line_of (n ∷ [])) x₀)
