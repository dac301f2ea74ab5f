-- The replay program's lines. 01, "Replay program": lines of lowercase hexadecimal, one frame a line. Assumes nothing.
use Rattle.std.specs.Prelude.{ℕ, cond, List, [], ◌∷◌, ◌++◌, map, length, leb, eqb, Option, Some, None}
use Rattle.octets.specs.Bytes.{Bytes}
use Rattle.handle.specs.Handle.{lap}
use Rattle.hexadecimal.specs.Hex.{unhex, hex_byte, hex}
use Rattle.lines.specs.Text.{lines_of}
use Rattle.lists.specs.Lists.{concat}
use Rattle.server.specs.Sizes.{connection_count}
use Rattle.server.specs.Requests.{Event, opens, closes, sends}
use Rattle.server.specs.Server.{Server, addressed, answer, next, start}

-- ---- a line to a frame

-- "a kind byte (01 open, 02 close, 03 packet), a connection byte, and for 03 alone the packet's bytes, none or more"
abbrev pub framed : Option Bytes → Option Event
framed None = None
framed (Some []) = None
framed (Some (k ∷ [])) = None
framed (Some (k ∷ (c ∷ []))) = cond (eqb k 1) (Some (opens c)) (cond (eqb k 2) (Some (closes c)) (cond (eqb k 3) (Some (sends c [])) None))
framed (Some (k ∷ (c ∷ (x ∷ b)))) = cond (eqb k 3) (Some (sends c (x ∷ b))) None

-- "At most 2,080 digits."
abbrev pub longest_line : ℕ
longest_line = 2080

-- none: the line isn't a frame, 16
unfoldable pub frame : Bytes → Option Event
frame line = cond (leb (length line) longest_line) (framed (unhex line)) None

-- ---- an answer to its lines

-- "It writes the addressed packets one a line, then the number as two hexadecimal digits."
unfoldable pub answer_lines : List Bytes → ℕ → Bytes
answer_lines ps number = concat (map (λ p. hex p ++ (10 ∷ [])) ps) ++ (hex_byte number ++ (10 ∷ []))

-- "line isn't a frame"
abbrev pub no_frame : Bytes
no_frame = 49 ∷ 48 ∷ 10 ∷ []

-- ---- the whole replay, from text to text

-- what a line writes: its event's answer; 16 alone, where it isn't a frame
abbrev pub line_writes : Option Event → Server → Bytes
line_writes None s = no_frame
line_writes (Some e) s = answer_lines (map addressed (answer e s).sent) (answer e s).number

-- what isn't a frame the server does not see
abbrev pub server_after : Option Event → Server → Server
server_after None s = s
server_after (Some e) s = next e s

unfoldable pub replay_from : Server → List Bytes → Bytes
replay_from s [] = []
replay_from s (line ∷ lines) = line_writes (frame line) s ++ replay_from (server_after (frame line) s) lines

-- "It reads lines .. A last line without a line end counts; .. empty input writes nothing." From a fresh table; 02: "The replay program
-- .. keep `lap`"
unfoldable pub replay_of : Bytes → Bytes
replay_of text = replay_from (start connection_count lap) (lines_of text)
