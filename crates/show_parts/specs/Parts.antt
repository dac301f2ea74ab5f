-- The parts of what `show` prints for a line of a capture: its number and what it says, what the server answered, and how the table
-- stands after it. docs/SHOW.md has the layout. Assumes nothing.
use Rattle.std.specs.Prelude.{ℕ, cond, Option, Some, None, ◌||◌, List, [], ◌∷◌, ◌++◌, get_or, take, drop, eqb, ltb}
use Rattle.octets.specs.Bytes.{Bytes}
use Rattle.hexadecimal.specs.Hex.{hex}
use Rattle.packet.specs.Packet.{Reading, refused, got, read, requests}
use Rattle.handle.specs.Handle.{decimal}
use Rattle.server.specs.declared.JobRow.{JobRow}
use Rattle.server.specs.Sizes.{connection_count}
use Rattle.server.specs.Table.{Table, rows_of}
use Rattle.server.specs.Requests.{Event, opens, closes, sends}
use Rattle.capture.specs.Packets.{packet_lines}
use Rattle.show_names.specs.Names.{space}
use Rattle.show_packet.specs.Lines.{refusal_text, request_line, response_line}
use Rattle.show_table.specs.Standing.{below, gone_text, jobs_text, serial_text, sleepers_text}
use Rattle.show_job.specs.Concerned.{concerned}

-- ---- the fixed words

abbrev pub line_word : Bytes
line_word = 108 ∷ 105 ∷ 110 ∷ 101 ∷ 32 ∷ []  -- line, and a space

abbrev pub opens_word : Bytes
opens_word = 32 ∷ 111 ∷ 112 ∷ 101 ∷ 110 ∷ 115 ∷ []  -- opens, after a space

abbrev pub closes_word : Bytes
closes_word = 32 ∷ 99 ∷ 108 ∷ 111 ∷ 115 ∷ 101 ∷ 115 ∷ []  -- closes, after a space

abbrev pub done_word : Bytes
done_word = 100 ∷ 111 ∷ 110 ∷ 101 ∷ []  -- done

abbrev pub ended_word : Bytes
ended_word = 101 ∷ 110 ∷ 100 ∷ 101 ∷ 100 ∷ 32 ∷ []  -- ended, and a space

abbrev pub dropped_word : Bytes
dropped_word = 100 ∷ 114 ∷ 111 ∷ 112 ∷ 112 ∷ 101 ∷ 100 ∷ 32 ∷ []  -- dropped, and a space

-- ---- the digits of a line, as far as they may be seen

-- the header of a packet, where it is good: what follows it is data, which is shown in words alone
abbrev pub header_in : Bytes → Reading → Bytes
header_in b (refused n) = cond (ltb n 9) [] (take 12 b)
header_in b (got k as') = take 12 b

unfoldable pub header_seen : Bytes → Bytes
header_seen b = header_in b (read requests b)

-- kind, connection and header, after a space
abbrev pub frame_digits : ℕ → ℕ → Bytes → Bytes
frame_digits kind c header = space ++ (hex (kind ∷ c ∷ []) ++ hex header)

unfoldable pub digits_text : Option Event → Bytes
digits_text None = []
digits_text (Some (opens c)) = frame_digits 1 c []
digits_text (Some (closes c)) = frame_digits 2 c []
digits_text (Some (sends c b)) = frame_digits 3 c (header_seen b)

-- ---- what the line says, and what the server answered

-- `1 opens`, `1 closes`, `1 -> CAN_DO reverse`; what isn't a frame says nothing
unfoldable pub event_text : Option Event → Bytes
event_text None = []
event_text (Some (opens c)) = below ++ (decimal c ++ opens_word)
event_text (Some (closes c)) = below ++ (decimal c ++ closes_word)
event_text (Some (sends c b)) = below ++ request_line c b

-- an addressed packet: `0 <- JOB_CREATED H:lap:1`
unfoldable pub sent_text : Bytes → Bytes
sent_text p = below ++ response_line (get_or p 0 0) (drop 1 p)

-- `done`, `refused 14 handle`
unfoldable pub number_text : ℕ → Bytes
number_text n = below ++ cond (eqb n 0) done_word (refusal_text n)

-- ---- how the table stands

-- the jobs at the hub of this name, from the rows before the event and after it

abbrev pub named_text : Bytes → Option ℕ → List JobRow → List JobRow → Bytes
named_text hub None before after = []
named_text hub (Some n) before after = serial_text hub connection_count n before after

-- a packet: the job that it ended, and the one that it concerns
unfoldable pub packet_jobs : Bytes → Option ℕ → List JobRow → List JobRow → Bytes
packet_jobs hub s before after = gone_text hub ended_word before after ++ named_text hub s before after

-- a close that is done: the jobs that it dropped, and all that are left
unfoldable pub close_jobs : Bytes → ℕ → List JobRow → List JobRow → Bytes
close_jobs hub n before after = cond (eqb n 0) (gone_text hub dropped_word before after ++ jobs_text hub connection_count after) []

unfoldable pub jobs_after : Bytes → Option Event → List Bytes → ℕ → List JobRow → List JobRow → Bytes
jobs_after hub None ps n before after = []
jobs_after hub (Some (opens c)) ps n before after = []
jobs_after hub (Some (closes c)) ps n before after = close_jobs hub n before after
jobs_after hub (Some (sends c b)) ps n before after = packet_jobs hub (concerned hub b ps) before after

-- the table after the event, with the rows before it; the hub is the table's. What was refused by 1 is no table; what was refused by 16 the
-- server did not see.
unfoldable pub table_text : Option Event → List Bytes → ℕ → List JobRow → Table → Bytes
table_text f ps n before t = cond (eqb n 1 || eqb n 16) [] (sleepers_text connection_count t.connections ++ jobs_after t.hub f ps n before (rows_of t))

-- ---- the parts of a line

-- the number of the line, its digits, and what it says
unfoldable pub heading_text : ℕ → Option Event → Bytes
heading_text k f = line_word ++ (decimal k ++ (digits_text f ++ event_text f))

unfoldable pub answer_text : List Bytes → ℕ → Bytes
answer_text ps n = packet_lines sent_text ps ++ number_text n
