-- What the program `report` prints: the answer to one text command after a capture. 02, ask 1, and 01, "Replay program". One line of the
-- capture and the answer on the lent bytes, a whole text on them, and the same by the server itself. Assumes nothing.
use Rattle.std.specs.Prelude.{ℕ, Bool, not, cond, ◌||◌, List, [], ◌∷◌, ◌++◌, length, take, ltb}
use Rattle.octets.specs.Bytes.{Bytes}
use Rattle.octets.specs.Put.{put}
use Rattle.lines.specs.Text.{lines_of}
use Rattle.server.specs.Sizes.{connection_count, output_size}
use Rattle.server.specs.Table.{Table}
use Rattle.server.specs.Server.{Server, start}
use Rattle.server.specs.Layout.{table_of, table_size}
use Rattle.server.specs.Call.{Result, is_sound}
use Rattle.server.specs.Replay.{frame, server_after}
use Rattle.command.specs.Texts.{line_feed, text_for}
use Rattle.capture.specs.Spoken.{answered_to}

-- ---- one line of the capture on the lent bytes

-- what it leaves of them: its number isn't told, and the packets in the output are sent to nobody
pub record Kept : Type 0 where
  pub table : Bytes
  pub workloads : Bytes
  pub output : Bytes

abbrev pub keeping : Bytes → Bytes → Bytes → Kept
keeping table workloads output = record { table = table; workloads = workloads; output = output }

abbrev pub kept_of : Result → Kept
kept_of r = keeping r.table r.workloads r.output

-- a frame's event is called; what isn't a frame changes nothing
unfoldable pub kept : Bytes → Bytes → Bytes → Bytes → Kept
kept line t w o = kept_of (answered_to (frame line) t w o)

-- ---- the answer on the lent bytes

-- as much of a command as is looked at. 02: "lines of up to 128 bytes"
abbrev pub command_size : ℕ
command_size = 128

unfoldable pub command_line : Bytes → Bytes
command_line command = take command_size command ++ line_feed

-- a command comes without its line end
abbrev pub answer_to : Bytes → Table → Bytes
answer_to command t = text_for (command ++ line_feed) t

-- a text or a table that is too short, or a table that breaks a rule: nothing is said, and nothing changed
unfoldable pub is_unfit : Bytes → Bytes → Bool
is_unfit t x = ltb (length x) (output_size connection_count) || (ltb (length t) (table_size connection_count) || not (is_sound connection_count t))

pub record Report : Type 0 where
  pub length' : ℕ
  pub text : Bytes

abbrev pub report : ℕ → Bytes → Report
report length' text = record { length' = length'; text = text }

unfoldable pub reported : Bytes → Bytes → Bytes → Report
reported command t x =
    let words = answer_to command (table_of connection_count t) in
    cond (is_unfit t x) (report 0 x) (report (length words) (put 0 words x))

-- ---- whole texts: the first line is the command, and all others are the capture

-- each line on the bytes that the line before left
unfoldable pub kept_all : List Bytes → Bytes → Bytes → Bytes → Kept
kept_all [] t w o = keeping t w o
kept_all (line ∷ lines) t w o =
    let r = kept line t w o in
    kept_all lines r.table r.workloads r.output

-- where there is no line, nothing is said
unfoldable pub reported_text : List Bytes → Bytes → Bytes → Bytes → Bytes → Bytes
reported_text [] t w o x = []
reported_text (command ∷ lines) t w o x =
    let r = reported command (kept_all lines t w o).table x in
    take r.length' r.text

-- by the server itself
unfoldable pub server_after_all : List Bytes → Server → Server
server_after_all [] s = s
server_after_all (line ∷ lines) s = server_after_all lines (server_after (frame line) s)

-- from a fresh one of the hub of this name
unfoldable pub report_for : Bytes → List Bytes → Bytes
report_for hub [] = []
report_for hub (command ∷ lines) = answer_to command (server_after_all lines (start connection_count hub)).table

-- from the first byte to the last
unfoldable pub report_of : Bytes → Bytes → Bytes
report_of hub text = report_for hub (lines_of text)
