-- How long the lines on the table are at the most: the sleepers', a job's, those of all jobs together, and of all that are gone. A text
-- with that much room after `at` has room for any table's whose hub has a name. Assumes nothing.
use Prim.Native.Nat.{ℕ, zero, suc, ◌+◌, ◌/◌, ◌%◌, ◌<◌, ◌≤◌}
use mathlib.Core.Path.{◌≡◌}
use mathlib.Core.Bool.{Bool, true, false, cond}
use mathlib.Core.List.{List, [], ◌∷◌, ◌++◌}
use Rattle.std.specs.Prelude.{Option, Some, None}
use native.Mathlib.Omega.{arith}
use borrow.Author.Tests.{lt-ltb}
use lib.Dec.{eqb, ltb}
use lib.ListN.{length, get_or, length-append}
use Rattle.octets.specs.Bytes.{Bytes}
use Rattle.sets.specs.Sets.{has}
use Rattle.handle.specs.Handle.{decimal, decimal_in, handle, handle_most, is_hub_name}
use Rattle.handle.proofs.Decimal.{decimal_most}
use Rattle.handle.proofs.Handles.{handle_bounded}
use Rattle.server.specs.declared.Connection.{Connection}
use Rattle.server.specs.declared.JobRow.{JobRow}
use Rattle.server.specs.Sizes.{connection_count, job_count}
use Rattle.server.specs.Table.{live, no_row}
use Rattle.plan.specs.Values.{serial_row}
use Rattle.show_names.specs.Names.{space}
use Rattle.prints.proofs.Pieces.{pieces_short}
use Rattle.show_table.specs.Standing.{absent_text, background_word, connections_text, each, found_text, gone_one, gone_text, handle_line, high_word, holder_text, holder_word, job_text, job_word, jobs_text, listeners_word, low_word, marks_text, no_job_word, or_none, serial_text, sleepers_text, unfound_text, connections_room, sleepers_room, job_room, jobs_room, gone_one_room, gone_room}
use Rattle.show_table.proofs.Connections.{shown, sleeps}
use Rattle.show_table.proofs.Jobs.{gone, unfinished}

-- ---- connections

two_digits : (c : ℕ) → c < 100 → length (decimal c) ≤ 2
unfolding decimal decimal_in
two_digits c h = either (ltb c 10)
  where
    either : (b : Bool) → length (cond b ((c + 48) ∷ []) (decimal_in 9 (c / 10) ++ ((c % 10 + 48) ∷ []))) ≤ 2
    either true = omega arith
    either false = rw (lt-ltb (c / 10) 10 (omega arith)) (omega arith)

connection_short : (f : ℕ → Bool) (c : ℕ) → c < connection_count → length (shown f c) ≤ 3
connection_short f c h = either (f c)
  where
    either : (b : Bool) → length (cond b (space ++ decimal c) []) ≤ 3
    either true = omega (arith, two_digits c (omega arith))
    either false = omega arith

or_none_short : (s : Bytes) → length s ≤ connections_room → length (or_none s) ≤ connections_room
unfolding or_none
or_none_short [] h = omega arith
or_none_short (x ∷ s) h = h

connections_short : (f : ℕ → Bool) → length (connections_text f connection_count) ≤ connections_room
unfolding connections_text each
connections_short f = or_none_short (each f connection_count) (pieces_short (shown f) 3 connection_count (connection_short f))

pub sleepers_short : (cs : List Connection) → length (sleepers_text connection_count cs) ≤ sleepers_room
unfolding sleepers_text
sleepers_short cs = omega (arith, connections_short (sleeps cs))

-- ---- jobs

holder_short : (h : ℕ) → length (holder_text h) ≤ 11
unfolding holder_text
holder_short zero = omega arith
holder_short (suc c) = omega (arith, decimal_most c)

-- what is laid only if a test holds
if_short : (b : Bool) (word : Bytes) → length (cond b word []) ≤ length word
if_short true word = omega arith
if_short false word = omega arith

marks_short : (r : JobRow) → length (marks_text r) ≤ 20
unfolding marks_text
marks_short r =
    let low = cond (eqb r.priority 0) low_word [] in
    let high = cond (eqb r.priority 2) high_word [] in
    let background = cond r.background background_word [] in
    omega (
      arith,
      length-append low (high ++ background),
      length-append high background,
      if_short (eqb r.priority 0) low_word,
      if_short (eqb r.priority 2) high_word,
      if_short r.background background_word,
    )

module _ (hub : Bytes) (good : is_hub_name hub ≡ true) where
  handle_line_short : (word : Bytes) (serial : ℕ) → length (handle_line hub word serial) ≤ length word + 5 + handle_most
  unfolding handle_line
  handle_line_short word serial = omega (arith, length-append word (handle hub serial), handle_bounded hub good serial)

  job_short : (r : JobRow) → length (job_text hub connection_count r) ≤ job_room
  unfolding job_text
  job_short r =
      let l : Bytes = connections_text (has r.listeners) connection_count in
      let h : Bytes = holder_word ++ holder_text r.holder in
      omega (
        arith,
        length-append (handle_line hub job_word r.serial) (marks_text r ++ (h ++ (listeners_word ++ l))),
        length-append (marks_text r) (h ++ (listeners_word ++ l)),
        length-append h (listeners_word ++ l),
        handle_line_short job_word r.serial,
        marks_short r,
        holder_short r.holder,
        connections_short (has r.listeners),
      )

  unfound_short : (word : Bytes) (serial : ℕ) (o : Option ℕ) → length (unfound_text hub word serial o) ≤ length word + 5 + handle_most
  unfolding unfound_text
  unfound_short word serial (Some p) = omega arith
  unfound_short word serial None = handle_line_short word serial

  absent_short : (word : Bytes) (serial : ℕ) (rs : List JobRow) → length (absent_text hub word serial rs) ≤ length word + 5 + handle_most
  unfolding absent_text
  absent_short word serial rs = unfound_short word serial (serial_row serial rs)

  found_short : (serial : ℕ) (before after : List JobRow) (o : Option ℕ) → length (found_text hub connection_count serial before after o) ≤ job_room
  unfolding found_text
  found_short serial before after (Some p) = job_short (get_or after p no_row)
  found_short serial before after None = omega (arith, absent_short no_job_word serial before)

  pub serial_text_short : (serial : ℕ) (before after : List JobRow) → length (serial_text hub connection_count serial before after) ≤ job_room
  unfolding serial_text
  serial_text_short serial before after = found_short serial before after (serial_row serial after)

  row_short : (r : JobRow) → length (cond (live r) (job_text hub connection_count r) []) ≤ job_room
  row_short r = either (live r)
    where
      either : (b : Bool) → length (cond b (job_text hub connection_count r) []) ≤ job_room
      either true = job_short r
      either false = omega arith

  pub jobs_short : (rs : List JobRow) → length (jobs_text hub connection_count rs) ≤ jobs_room
  unfolding jobs_text
  jobs_short rs = pieces_short (unfinished hub rs) job_room job_count (λ p h. row_short (get_or rs p no_row))

  -- ---- jobs that are gone

  gone_one_short : (word : Bytes) (after : List JobRow) (r : JobRow) → length word ≤ 8 → length (gone_one hub word after r) ≤ gone_one_room
  unfolding gone_one
  gone_one_short word after r h = either (live r)
    where
      either : (b : Bool) → length (cond b (absent_text hub word r.serial after) []) ≤ gone_one_room
      either true = omega (arith, absent_short word r.serial after)
      either false = omega arith

  pub gone_short : (word : Bytes) (before after : List JobRow) → length word ≤ 8 → length (gone_text hub word before after) ≤ gone_room
  unfolding gone_text
  gone_short word before after h = pieces_short (gone hub word before after) gone_one_room job_count (λ p l. gone_one_short word after (get_or before p no_row) h)
