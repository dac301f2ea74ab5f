-- What is said of a capture's lines, whatever the words: the replay program says it in digits, the program `show` in words. One line
-- on the lent bytes, a whole text on them, and the same by the server itself. Assumes nothing.
use Rattle.std.specs.Prelude.{ℕ, suc, not, cond, ◌||◌, List, [], ◌∷◌, ◌++◌, map, length, take, ltb, Option, Some, None}
use Rattle.octets.specs.Bytes.{Bytes}
use Rattle.octets.specs.Put.{put}
use Rattle.server.specs.Sizes.{connection_count}
use Rattle.server.specs.Table.{Table}
use Rattle.server.specs.Requests.{Event}
use Rattle.server.specs.Server.{Server, addressed, next, answer, start}
use Rattle.server.specs.Layout.{table_of}
use Rattle.server.specs.Call.{Result, server_in, too_short, is_sound, refused_by, call}
use Rattle.server.specs.Replay.{frame, server_after}
use Rattle.lines.specs.Text.{Seen, lines_of}

-- ---- one frame on the lent bytes

-- a frame's event is called; what isn't a frame the server does not see, and 01 gives it the number 16
unfoldable pub answered_to : Option Event → Bytes → Bytes → Bytes → Result
answered_to None t w o = refused_by 16 t w o
answered_to (Some e) t w o = call connection_count e t w o

-- the packets that are sent; none, where the call is refused by 1
unfoldable pub packets_to : Option Event → Bytes → Bytes → Bytes → List Bytes
packets_to None t w o = []
packets_to (Some e) t w o = cond (too_short connection_count t w o || not (is_sound connection_count t)) [] (map addressed (answer e (server_in connection_count t w)).sent)

-- ---- what is said

-- what is said of a line: from its frame's event, the packets that are sent, the number, and the tables before and after it
abbrev pub Speech : Type 0
Speech = Option Event → List Bytes → ℕ → Table → Table → Bytes

-- what a line says and leaves
pub record Told : Type 0 where
  pub length' : ℕ
  pub text : Bytes
  pub output : Bytes
  pub table : Bytes
  pub workloads : Bytes

abbrev pub telling : ℕ → Bytes → Bytes → Bytes → Bytes → Told
telling length' text output table workloads = record { length' = length'; text = text; output = output; table = table; workloads = workloads }

-- the words over the start of the text
abbrev pub saying : Bytes → Bytes → Bytes → Bytes → Bytes → Told
saying words text output table workloads = telling (length words) (put 0 words text) output table workloads

unfoldable pub told_of : Speech → Option Event → Bytes → Bytes → Bytes → Bytes → Told
told_of say f t w o x =
    let r = answered_to f t w o in
    saying (say f (packets_to f t w o) r.number (table_of connection_count t) (table_of connection_count r.table)) x r.output r.table r.workloads

-- a text with too little room: nothing is said, and nothing changed
unfoldable pub told : ℕ → Speech → Bytes → Bytes → Bytes → Bytes → Bytes → Told
told room say line t w o x = cond (ltb (length x) room) (telling 0 x o t w) (told_of say (frame line) t w o x)

-- ---- whole texts: line k is said by `says k`

-- each line on the bytes that the line before left
unfoldable pub said : ℕ → (ℕ → Speech) → ℕ → List Bytes → Bytes → Bytes → Bytes → Bytes → Bytes
said room says k [] t w o x = []
said room says k (line ∷ lines) t w o x =
    let r = told room (says k) line t w o x in
    take r.length' r.text ++ said room says (suc k) lines r.table r.workloads r.output r.text

-- by the server itself
abbrev pub spoken_to : Speech → Option Event → Server → Bytes
spoken_to say None s = say None [] 16 s.table s.table
spoken_to say (Some e) s = say (Some e) (map addressed (answer e s).sent) (answer e s).number s.table (next e s).table

unfoldable pub spoken : (ℕ → Speech) → ℕ → List Bytes → Server → Bytes
spoken says k [] s = []
spoken says k (line ∷ lines) s = spoken_to (says k) (frame line) s ++ spoken says (suc k) lines (server_after (frame line) s)

-- a text from its first byte to its last, by a fresh server of the hub of this name
abbrev pub spoken_text : (ℕ → Speech) → Bytes → Bytes → Bytes
spoken_text says hub text = spoken says 1 (lines_of text) (start connection_count hub)

-- as much of each line as a buffer held
abbrev pub texts_seen : List Seen → List Bytes
texts_seen ls = map (λ (l : Seen). l.text) ls
