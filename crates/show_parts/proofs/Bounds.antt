-- How long the parts of a line are at the most. Assumes nothing.
use Prim.Native.Nat.{ℕ, ◌+◌, ◌*◌, ◌≤◌}
use mathlib.Core.Path.{◌≡◌, refl}
use mathlib.Core.Bool.{Bool, true, false, cond, ◌||◌}
use Rattle.std.specs.Prelude.{Option, Some, None}
use mathlib.Core.List.{List, [], ◌∷◌, ◌++◌}
use native.Mathlib.Omega.{arith}
use borrow.Author.Tests.{eqb-false}
use lib.ListN.{length, get_or, take, drop, length-append, length-take, length-drop}
use lib.Dec.{eqb, ltb}
use Rattle.octets.specs.Bytes.{Bytes}
use Rattle.hexadecimal.specs.Hex.{hex}
use Rattle.hexadecimal.proofs.Writing.{hex_length}
use Rattle.packet.specs.Packet.{Reading, refused, got, read, requests}
use Rattle.handle.specs.Handle.{decimal, is_hub_name}
use Rattle.handle.proofs.Decimal.{decimal_most}
use Rattle.server.specs.declared.JobRow.{JobRow}
use Rattle.lists.specs.Lists.{concat}
use Rattle.server.specs.Sizes.{connection_count}
use Rattle.server.specs.Table.{Table, rows_of}
use Rattle.server.specs.Rules.{hub_named}
use Rattle.server.specs.Requests.{Event, opens, closes, sends}
use Rattle.capture.specs.Packets.{Addressed, packet_lines}
use Rattle.capture.proofs.Lines.{lines_short}
use Rattle.show_packet.specs.Lines.{refusal_text}
use Rattle.show_packet.proofs.Bounds.{refusal_short, request_line_short, response_line_near}
use Rattle.show_table.specs.Standing.{below, gone_text, jobs_text, sleepers_text, sleepers_room, jobs_room, gone_room}
use Rattle.show_table.proofs.Bounds.{gone_short, jobs_short, serial_text_short, sleepers_short}
use Rattle.show_job.specs.Concerned.{concerned}
use Rattle.show_parts.specs.Parts.{answer_text, close_jobs, closes_word, digits_text, done_word, dropped_word, ended_word, event_text, frame_digits, header_in, header_seen, heading_text, jobs_after, named_text, number_text, opens_word, packet_jobs, sent_text, table_text}

event_short : (f : Option Event) → length (event_text f) ≤ 1270
unfolding event_text
event_short None = omega arith
event_short (Some (opens c)) = omega (arith, length-append (decimal c) opens_word, decimal_most c)
event_short (Some (closes c)) = omega (arith, length-append (decimal c) closes_word, decimal_most c)
event_short (Some (sends c b)) = omega (arith, request_line_short c b)

header_short : (b : Bytes) (r : Reading) → length (header_in b r) ≤ 12
header_short b (refused n) = either (ltb n 9)
  where
    either : (l : Bool) → length (cond l [] (take 12 b)) ≤ 12
    either true = omega arith
    either false = omega (arith, length-take 12 b)
header_short b (got k as') = omega (arith, length-take 12 b)

frame_digits_short : (kind c : ℕ) (header : Bytes) → length header ≤ 12 → length (frame_digits kind c header) ≤ 29
frame_digits_short kind c header h = omega (arith, length-append (hex (kind ∷ c ∷ [])) (hex header), hex_length (kind ∷ c ∷ []), hex_length header)

digits_short : (f : Option Event) → length (digits_text f) ≤ 29
unfolding digits_text header_seen
digits_short None = omega arith
digits_short (Some (opens c)) = frame_digits_short 1 c [] (omega arith)
digits_short (Some (closes c)) = frame_digits_short 2 c [] (omega arith)
digits_short (Some (sends c b)) = frame_digits_short 3 c (header_in b (read requests b)) (header_short b (read requests b))

pub heading_short : (k : ℕ) (f : Option Event) → length (heading_text k f) ≤ 1314
unfolding heading_text
heading_short k f = omega (arith, length-append (decimal k) (digits_text f ++ event_text f), length-append (digits_text f) (event_text f), decimal_most k, digits_short f, event_short f)

-- at most fourteen times the packet
pub sent_short : (p : Bytes) → 13 ≤ length p → length (sent_text p) ≤ length p * 14
unfolding sent_text
sent_short p h = omega (arith, response_line_near (get_or p 0 0) (drop 1 p), length-drop 1 p)

number_short : (n : ℕ) → length (number_text n) ≤ 47
unfolding number_text
number_short n = either (eqb n 0)
  where
    either : (b : Bool) → length (below ++ cond b done_word (refusal_text n)) ≤ 47
    either true = omega arith
    either false = omega (arith, refusal_short n)

pub answer_short : (ps : List Bytes) (n : ℕ) → Addressed ps → length (answer_text ps n) ≤ length (concat ps) * 14 + 47
unfolding answer_text
answer_short ps n a = omega (arith, length-append (packet_lines sent_text ps) (number_text n), lines_short sent_text 14 sent_short ps a, number_short n)

-- ---- the table, where its hub has a name

module _ (hub : Bytes) (good : is_hub_name hub ≡ true) where
  named_short : (s : Option ℕ) (u v : List JobRow) → length (named_text hub s u v) ≤ jobs_room
  named_short None u v = omega arith
  named_short (Some n) u v = omega (arith, serial_text_short hub good n u v)

  packet_jobs_short : (s : Option ℕ) (u v : List JobRow) → length (packet_jobs hub s u v) ≤ gone_room + jobs_room
  unfolding packet_jobs
  packet_jobs_short s u v = omega (arith, length-append (gone_text hub ended_word u v) (named_text hub s u v), gone_short hub good ended_word u v (omega arith), named_short s u v)

  close_jobs_short : (n : ℕ) (u v : List JobRow) → length (close_jobs hub n u v) ≤ gone_room + jobs_room
  unfolding close_jobs
  close_jobs_short n u v = either (eqb n 0)
    where
      either : (b : Bool) → length (cond b (gone_text hub dropped_word u v ++ jobs_text hub connection_count v) []) ≤ gone_room + jobs_room
      either true = omega (arith, length-append (gone_text hub dropped_word u v) (jobs_text hub connection_count v), gone_short hub good dropped_word u v (omega arith), jobs_short hub good v)
      either false = omega arith

  jobs_after_short : (f : Option Event) (ps : List Bytes) (n : ℕ) (u v : List JobRow) → length (jobs_after hub f ps n u v) ≤ gone_room + jobs_room
  unfolding jobs_after
  jobs_after_short None ps n u v = omega arith
  jobs_after_short (Some (opens c)) ps n u v = omega arith
  jobs_after_short (Some (closes c)) ps n u v = close_jobs_short n u v
  jobs_after_short (Some (sends c b)) ps n u v = packet_jobs_short (concerned hub b ps) u v

-- of a table that is none nothing is said, and its hub needs no name
pub table_short : (f : Option Event) (ps : List Bytes) (n : ℕ) (u : List JobRow) (t : Table) → ((n ≡ 1 → ⊥) → (n ≡ 16 → ⊥) → hub_named t ≡ true)
    → length (table_text f ps n u t) ≤ sleepers_room + gone_room + jobs_room
unfolding table_text
table_short f ps n u t named = go (eqb n 1) (eqb n 16) refl refl
  where
    go : (b c : Bool) → eqb n 1 ≡ b → eqb n 16 ≡ c
        → length (cond (b || c) [] (sleepers_text connection_count t.connections ++ jobs_after t.hub f ps n u (rows_of t))) ≤ sleepers_room + gone_room + jobs_room
    go true c e d = omega arith
    go false true e d = omega arith
    go false false e d =
        let good = named (eqb-false n 1 e) (eqb-false n 16 d) in
        omega (
          arith,
          length-append (sleepers_text connection_count t.connections) (jobs_after t.hub f ps n u (rows_of t)),
          sleepers_short t.connections,
          jobs_after_short t.hub good f ps n u (rows_of t),
        )
