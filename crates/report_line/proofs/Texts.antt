-- A whole text reported, from a fresh table of any hub: what is printed is what the command would be answered after the capture.
-- Assumes nothing.
use Prim.Native.Nat.{ℕ, ◌<◌, ◌≤◌}
use mathlib.Core.Path.{◌≡◌, refl, ap, ap₂, ◌∙◌}
use mathlib.Core.Bool.{true, false}
use Rattle.std.specs.Prelude.{Option, Some, None}
use mathlib.Core.List.{List, [], ◌∷◌, ◌++◌, map}
use native.Mathlib.Omega.{arith}
use borrow.Author.Tests.{le-ltb}
use lib.ListN.{length, take}
use Rattle.octets.specs.Bytes.{Bytes}
use Rattle.octets.proofs.Laying.{length_put}
use Rattle.handle.specs.Handle.{is_hub_name}
use Rattle.lines.specs.Text.{lines_of, run_of}
use Rattle.server.specs.Sizes.{connection_count, workloads_size, output_size}
use Rattle.server.specs.Requests.{Event}
use Rattle.server.specs.Server.{Server, start}
use Rattle.server.specs.Layout.{table_of, table_size}
use Rattle.server.specs.Call.{Made, Result, make, performed, refused_by}
use Rattle.server.specs.Replay.{frame, longest_line, server_after}
use Rattle.table_laws.proofs.Round.{table_put}
use Rattle.server_calls.proofs.Follows.{Running, call_follows, fitting, sound_with, table_with, workloads_with}
use Rattle.server_calls.proofs.Histories.{make_start, running_start}
use Rattle.command.specs.Texts.{line_feed}
use Rattle.capture.specs.Spoken.{answered_to, texts_seen}
use Rattle.capture.proofs.Framing.{cut_line}
use Rattle.capture.proofs.Texts.{laid_start, running_after}
use Rattle.capture.proofs.Whole.{texts_cut}
use Rattle.report_line.specs.Reported.{answer_to, is_unfit, kept, kept_all, report_for, report_of, reported, reported_text, server_after_all}
use Rattle.report_line.proofs.Commands.{cut_command}
use Rattle.report_line.proofs.Answers.{Fit, answer_room}

-- ---- the answer of a table

fit_not : (t x : Bytes) → Fit t x → is_unfit t x ≡ false
unfolding is_unfit
fit_not t x f = rw (le-ltb (length x) (output_size connection_count) f.room, le-ltb (length t) (table_size connection_count) f.long, f.sound)

answer_shown : (command t x : Bytes) → Fit t x → take (reported command t x).length' (reported command t x).text ≡ answer_to command (table_of connection_count t)
unfolding reported
answer_shown command t x f =
    rw (fit_not t x f) (laid_start (answer_to command (table_of connection_count t)) x (omega (arith, answer_room t x f (command ++ line_feed))))

-- ---- lines on bytes that hold a server leave bytes that hold the next

module _ (t w : Bytes) (lt : table_size connection_count ≤ length t) (lw : workloads_size ≤ length w) where
  module _ (s : Server) (h : Running connection_count s) (o : Bytes) (lo : output_size connection_count ≤ length o) where
    leaves : Option Event → Result
    leaves f = answered_to f (table_with s t) (workloads_with s w) o

    table_left_lem : (f : Option Event) → (leaves f).table ≡ table_with (server_after f s) t
    unfolding leaves answered_to refused_by performed
    table_left_lem None = refl
    table_left_lem (Some e) = ap (λ (r : Result). r.table) (call_follows connection_count (omega arith) s h t w lt lw e o lo)

    workloads_left_lem : (f : Option Event) → (leaves f).workloads ≡ workloads_with (server_after f s) w
    unfolding leaves answered_to refused_by performed
    workloads_left_lem None = refl
    workloads_left_lem (Some e) = ap (λ (r : Result). r.workloads) (call_follows connection_count (omega arith) s h t w lt lw e o lo)

    long_left : (f : Option Event) → output_size connection_count ≤ length (leaves f).output
    unfolding leaves answered_to refused_by performed
    long_left None = lo
    long_left (Some e) = rw (call_follows connection_count (omega arith) s h t w lt lw e o lo, length_put) lo

  kept_follows : (lines : List Bytes) (s : Server) → Running connection_count s → (o : Bytes) → output_size connection_count ≤ length o
      → (kept_all lines (table_with s t) (workloads_with s w) o).table ≡ table_with (server_after_all lines s) t
  unfolding kept_all kept server_after_all leaves
  kept_follows [] s h o lo = refl
  kept_follows (line ∷ lines) s h o lo =
      let f = frame line in
      let u = (leaves s h o lo f).output in
      ap₂ {C = Bytes} (λ (a b : Bytes). (kept_all lines a b u).table) (table_left_lem s h o lo f) (workloads_left_lem s h o lo f)
      ∙ kept_follows lines (server_after f s) (running_after s h f) u (long_left s h o lo f)

running_all : (lines : List Bytes) (s : Server) → Running connection_count s → Running connection_count (server_after_all lines s)
unfolding server_after_all
running_all [] s h = h
running_all (line ∷ lines) s h = running_all lines (server_after (frame line) s) (running_after s h (frame line))

-- ---- what a buffer does not hold of a line changes nothing

module _ (n : ℕ) (h : longest_line < n) where
  after_cut : (lines : List Bytes) (s : Server) → server_after_all (map (take n) lines) s ≡ server_after_all lines s
  unfolding server_after_all
  after_cut [] s = refl
  after_cut (line ∷ lines) s =
      ap (λ (f : Option Event). server_after_all (map (take n) lines) (server_after f s)) (cut_line n h line) ∙ after_cut lines (server_after (frame line) s)

  report_cut : (hub : Bytes) (lines : List Bytes) → report_for hub (map (take n) lines) ≡ report_for hub lines
  unfolding report_for
  report_cut hub [] = refl
  report_cut hub (command ∷ lines) = cut_command n command (omega arith) _ ∙ ap (λ (s : Server). answer_to command s.table) (after_cut lines (start connection_count hub))

-- ---- from a fresh table of the hub of this name, in any bytes that are long enough

module _ (hub : Bytes) (good : is_hub_name hub ≡ true) (t w : Bytes) (lt : table_size connection_count ≤ length t) (lw : workloads_size ≤ length w) where
  start_follows : (lines : List Bytes) (o x : Bytes) → output_size connection_count ≤ length o → output_size connection_count ≤ length x
      → reported_text lines (table_with (start connection_count hub) t) (workloads_with (start connection_count hub) w) o x ≡ report_for hub lines
  unfolding reported_text report_for
  start_follows [] o x lo lx = refl
  start_follows (command ∷ lines) o x lo lx =
      let b = start connection_count hub in
      let g = running_start connection_count hub good in
      let s = server_after_all lines b in
      let h = running_all lines b g in
      let f : Fit (table_with s t) x = record { room = lx; long = rw length_put lt; sound = sound_with connection_count (omega arith) s h t lt } in
      rw (kept_follows t w lt lw lines b g o lo)
      (answer_shown command (table_with s t) x f
      ∙ ap (answer_to command) (table_put connection_count s.table t (fitting connection_count (omega arith) s h) h.shaped.connections lt))

  pub report_lines : (lines : List Bytes) (o x : Bytes) → output_size connection_count ≤ length o → output_size connection_count ≤ length x
      → reported_text lines (make connection_count hub t w).table (make connection_count hub t w).workloads o x ≡ report_for hub lines
  report_lines lines o x lo lx =
      ap (λ (m : Made). reported_text lines m.table m.workloads o x) (make_start connection_count hub good t w lt lw) ∙ start_follows lines o x lo lx

  -- from text to text, with buffers for the command and for a line that hold one digit more than a frame has
  pub report_text : (buffer text o x : Bytes) → longest_line < length buffer → output_size connection_count ≤ length o → output_size connection_count ≤ length x
      → reported_text (texts_seen (run_of buffer text)) (make connection_count hub t w).table (make connection_count hub t w).workloads o x ≡ report_of hub text
  unfolding report_of
  report_text buffer text o x lb lo lx =
      report_lines (texts_seen (run_of buffer text)) o x lo lx
      ∙ ap (report_for hub) (texts_cut buffer text)
      ∙ report_cut (length buffer) lb hub (lines_of text)
