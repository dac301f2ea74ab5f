-- The lines of a whole text, and what feeding it byte by byte shows of them. Assumes nothing.
use Rattle.std.specs.Prelude.{ℕ, Bool, cond, List, [], ◌∷◌, ◌++◌, length, take, ltb, eqb}
use Rattle.octets.specs.Bytes.{Bytes}
use Rattle.lines.specs.Lines.{Held, fresh, fed, is_open}

-- the lines of a text before which s has come of the first one: each up to a line feed, and a last one without, if it is not empty
unfoldable pub lines_from : Bytes → Bytes → List Bytes
lines_from s [] = cond (eqb (length s) 0) [] (s ∷ [])
lines_from s (x ∷ t) = cond (eqb x 10) (s ∷ lines_from [] t) (lines_from (s ++ (x ∷ [])) t)

abbrev pub lines_of : Bytes → List Bytes
lines_of t = lines_from [] t

-- what a caller sees of a line: whether it is longer than the buffer, and as much of it as the buffer holds
pub record Seen : Type 0 where
  pub overlong : Bool
  pub text : Bytes

abbrev pub cut : ℕ → Bytes → Seen
cut room s = record { overlong = ltb room (length s); text = take room s }

abbrev pub shown : Held → Seen
shown h = record { overlong = h.line.overlong; text = take h.line.length h.buffer }

abbrev pub shown_if : Bool → Held → List Seen → List Seen
shown_if t h ls = cond t (shown h ∷ ls) ls

-- fed a text byte by byte: each line once its line feed has come, and one that is open when the text has ended
unfoldable pub run : Held → Bytes → List Seen
run h [] = shown_if (is_open h.line) h []
run h (x ∷ t) =
    let g = fed h.line h.buffer x in
    shown_if g.line.ended g (run g t)

abbrev pub run_of : Bytes → Bytes → List Seen
run_of buffer t = run (record { line = fresh; buffer = buffer }) t
