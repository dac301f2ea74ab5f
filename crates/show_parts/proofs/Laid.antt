-- What each branch lays is the part of the line that the definition gives: by the kind of frame, by the number, by the serial that was
-- found. Assumes nothing.
use Prim.Native.Nat.{ℕ, ◌-◌, ◌<◌, ◌≤◌}
use mathlib.Core.Path.{◌≡◌, ap, ap₂, sym}
use Rattle.std.specs.Prelude as P
use Rattle.std.specs.Prelude.{Option, Ok, Err, Some, None}
use mathlib.Core.List.{List, [], ◌++◌}
use borrow.Author.Tests.{le-ltb, lt-ltb, ne_eqb}
use lib.ListN.{length, get_or, take, drop}
use Rattle.octets.specs.Bytes.{Bytes}
use Rattle.octets.proofs.Strings.{rest_part}
use Rattle.packet.specs.declared.Ends.{Ends}
use Rattle.packet.specs.declared.Packet.{Packet}
use Rattle.packet.specs.declared.Refusal.{Refusal}
use Rattle.packet.specs.Refusals.{number_of}
use Rattle.packet.specs.Packet.{read, requests}
use Rattle.packet.specs.Answers.{answer_of}
use Rattle.packet_laws.proofs.Answers.{read_answer, refused_answer}
use Rattle.handle.specs.Handle.{decimal}
use Rattle.server.specs.declared.JobRow.{JobRow}
use Rattle.server.specs.Sizes.{connection_count}
use Rattle.server.specs.Table.{Table}
use Rattle.server.specs.Requests.{Event}
use Rattle.plan.specs.declared.Values as V'
use Rattle.plan.specs.Values.{values_of}
use Rattle.capture.specs.declared.Frame as F
use Rattle.capture.specs.declared.Frame.TheVariants as FV
use Rattle.capture.specs.Frames.{event_of}
use Rattle.show_packet.specs.Lines.{refusal_text, request_line, response_line}
use Rattle.show_table.specs.Standing.{below, gone_text, jobs_text, serial_text, sleepers_text}
use Rattle.show_job.specs.Concerned.{concerned}
use Rattle.show_parts.specs.Parts.{close_jobs, closes_word, digits_text, done_word, dropped_word, event_text, frame_digits, header_seen, jobs_after, named_text, number_text, opens_word, packet_jobs, sent_text, table_text}

-- ---- by the kind of frame

module _ (f : P.Option F.Frame) (b : Bytes) where
  module _ (e : f ≡ P.None) where
    pub nothing_digits : [] ≡ digits_text (event_of f b)
    unfolding digits_text
    nothing_digits = rw e

    pub nothing_event : [] ≡ event_text (event_of f b)
    unfolding event_text
    nothing_event = rw e

    pub nothing_jobs : (hub : Bytes) (ps : List Bytes) (n : ℕ) (u v : List JobRow) → [] ≡ jobs_after hub (event_of f b) ps n u v
    unfolding jobs_after
    nothing_jobs hub ps n u v = rw e

  module _ (c : ℕ) where
    module _ (e : f ≡ P.Some (FV.Open c)) where
      pub open_digits : frame_digits 1 c [] ≡ digits_text (event_of f b)
      unfolding digits_text
      open_digits = rw e

      pub open_event : below ++ (decimal c ++ opens_word) ≡ event_text (event_of f b)
      unfolding event_text
      open_event = rw e

      pub open_jobs : (hub : Bytes) (ps : List Bytes) (n : ℕ) (u v : List JobRow) → [] ≡ jobs_after hub (event_of f b) ps n u v
      unfolding jobs_after
      open_jobs hub ps n u v = rw e

    module _ (e : f ≡ P.Some (FV.Close c)) where
      pub close_digits : frame_digits 2 c [] ≡ digits_text (event_of f b)
      unfolding digits_text
      close_digits = rw e

      pub close_event : below ++ (decimal c ++ closes_word) ≡ event_text (event_of f b)
      unfolding event_text
      close_event = rw e

      pub close_jobs_lem : (hub : Bytes) (ps : List Bytes) (n : ℕ) (u v : List JobRow) → close_jobs hub n u v ≡ jobs_after hub (event_of f b) ps n u v
      unfolding jobs_after
      close_jobs_lem hub ps n u v = rw e

    module _ (end : ℕ) (e : f ≡ P.Some (FV.Packet c end)) where
      pub packet_digits : (header : Bytes) → header ≡ header_seen (take (end - 2) (drop 2 b)) → frame_digits 3 c header ≡ digits_text (event_of f b)
      unfolding digits_text
      packet_digits header q = rw (e, q)

      pub packet_event : below ++ request_line c (take (end - 2) (drop 2 b)) ≡ event_text (event_of f b)
      unfolding event_text
      packet_event = rw e

      pub packet_jobs_lem : (hub : Bytes) (s : Option ℕ) (ps : List Bytes) (n : ℕ) (u v : List JobRow) → s ≡ concerned hub (take (end - 2) (drop 2 b)) ps
          → packet_jobs hub s u v ≡ jobs_after hub (event_of f b) ps n u v
      unfolding jobs_after
      packet_jobs_lem hub s ps n u v q = rw (e, q)

-- ---- by the reading of a packet

module _ (b : Bytes) where
  module _ (r : Refusal) (e : Err r ≡ answer_of (read requests b)) (n : ℕ) (en : n ≡ number_of r) where
    pub bad_header : n < 9 → (h : Bytes) → h ≡ take 0 b → h ≡ header_seen b
    unfolding header_seen
    bad_header l h q = rw (refused_answer requests b r (sym e), ← en, lt-ltb n 9 l) q

    pub header_refused : 9 ≤ n → (h : Bytes) → h ≡ take 12 b → h ≡ header_seen b
    unfolding header_seen
    header_refused l h q = rw (refused_answer requests b r (sym e), ← en, le-ltb n 9 l) q

  pub header_read : (p : Packet) → Ok p ≡ answer_of (read requests b) → (h : Bytes) → h ≡ take 12 b → h ≡ header_seen b
  unfolding header_seen
  header_read p e h q = rw (read_answer (read requests b) p.kind p.ends (sym e)).1 q

-- ---- by the serial

module _ (hub : Bytes) (s : Option ℕ) (u v : List JobRow) where
  pub no_serial_lem : s ≡ None → [] ≡ named_text hub s u v
  no_serial_lem e = rw e

  pub of_serial : (n : ℕ) → s ≡ Some n → serial_text hub connection_count n u v ≡ named_text hub s u v
  of_serial n e = rw e

-- ---- by the number

pub number_done : (n : ℕ) → n ≡ 0 → below ++ done_word ≡ number_text n
unfolding number_text
number_done n e = rw e

pub number_refused : (n : ℕ) → (n ≡ 0 → ⊥) → below ++ refusal_text n ≡ number_text n
unfolding number_text
number_refused n e = rw (ne_eqb n 0 e)

pub close_done : (hub : Bytes) (n : ℕ) (u v : List JobRow) → n ≡ 0 → gone_text hub dropped_word u v ++ jobs_text hub connection_count v ≡ close_jobs hub n u v
unfolding close_jobs
close_done hub n u v e = rw e

pub close_refused : (hub : Bytes) (n : ℕ) (u v : List JobRow) → (n ≡ 0 → ⊥) → [] ≡ close_jobs hub n u v
unfolding close_jobs
close_refused hub n u v e = rw (ne_eqb n 0 e)

module _ (f : Option Event) (ps : List Bytes) (n : ℕ) (before : List JobRow) (t : Table) where
  pub no_table : n ≡ 1 → [] ≡ table_text f ps n before t
  unfolding table_text
  no_table e = rw e

  pub unseen : n ≡ 16 → [] ≡ table_text f ps n before t
  unfolding table_text
  unseen e = rw e

  -- the name and the values as they were read from the bytes
  pub table_stands : (n ≡ 1 → ⊥) → (n ≡ 16 → ⊥) → (hub : Bytes) → hub ≡ t.hub → (v : V'.Values) → v ≡ values_of t
      → sleepers_text connection_count v.connections ++ jobs_after hub f ps n before v.rows ≡ table_text f ps n before t
  unfolding table_text values_of
  table_stands a b hub q v e =
      rw (ne_eqb n 1 a, ne_eqb n 16 b)
      (ap₂ {C = Bytes} (λ (h : Bytes) (u : V'.Values). sleepers_text connection_count u.connections ++ jobs_after h f ps n before u.rows) q e)

-- ---- an addressed packet

-- without its connection
pub sent_as_lem : (p : Bytes) → below ++ response_line (get_or p 0 0) (take (length p - 1) (drop 1 p)) ≡ sent_text p
unfolding sent_text
sent_as_lem p = ap (λ (b : Bytes). below ++ response_line (get_or p 0 0) b) (rest_part p 1)
