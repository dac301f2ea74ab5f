-- How each function meets the definitions: what a line leaves, when nothing is said, the command's line, and the answer. Assumes nothing.
use Prim.Native.Nat.{ℕ, ◌+◌, ◌<◌, ◌≤◌}
use mathlib.Core.Path.{◌≡◌, sym, ap, ◌∙◌}
use mathlib.Core.Bool.{Bool, true, false, not, ◌||◌}
use Rattle.std.specs.Prelude.{Option}
use native.Mathlib.Nat.{zero-add}
use native.Mathlib.Omega.{arith}
use borrow.Author.Tests.{lt-ltb, le-ltb, ltb-false, not-false}
use lib.Dec.{ltb}
use lib.ListN.{length, take}
use Rattle.octets.specs.Bytes.{Bytes}
use Rattle.octets.specs.Put.{put}
use Rattle.lists.proofs.Rows.{or_false}
use Rattle.server.specs.Sizes.{connection_count, output_size}
use Rattle.server.specs.Table.{Table}
use Rattle.server.specs.Requests.{Event}
use Rattle.server.specs.Layout.{table_of, table_size}
use Rattle.server.specs.Call.{is_sound, left}
use Rattle.server.specs.Replay.{frame}
use Rattle.command.specs.Texts.{text_for}
use Rattle.command_laws.proofs.Bounds.{text_room}
use Rattle.capture.specs.Spoken.{answered_to}
use Rattle.report_line.specs.Reported.{answer_to, command_line, command_size, is_unfit, keeping, kept, kept_of, report, reported}
use Rattle.report_line.proofs.Commands.{cut_command, line_back}

-- ---- one line of the capture

pub line_kept : (line t w o : Bytes) (v : Option Event) → v ≡ frame line → (n l : ℕ) (p u s : Bytes) → left n l p u s ≡ answered_to v t w o → keeping u s p ≡ kept line t w o
unfolding kept
line_kept line t w o v e n l p u s q = rw (← e) (ap kept_of q)

-- ---- when nothing is said

module _ (t x : Bytes) where
  pub short_text : length x < output_size connection_count → true ≡ is_unfit t x
  unfolding is_unfit
  short_text h = rw (lt-ltb (length x) (output_size connection_count) h)

  module _ (room : output_size connection_count ≤ length x) where
    pub short_table : length t < table_size connection_count → true ≡ is_unfit t x
    unfolding is_unfit
    short_table h = rw (le-ltb (length x) (output_size connection_count) room, lt-ltb (length t) (table_size connection_count) h)

    pub long_enough : table_size connection_count ≤ length t → (s : Bool) → s ≡ is_sound connection_count t → not s ≡ is_unfit t x
    unfolding is_unfit
    long_enough h s e = rw (le-ltb (length x) (output_size connection_count) room, le-ltb (length t) (table_size connection_count) h) (ap not e)

-- a text and a table of which something is said
pub record Fit (t x : Bytes) : Type 0 where
  pub room : output_size connection_count ≤ length x
  pub long : table_size connection_count ≤ length t
  pub sound : is_sound connection_count t ≡ true

pub fit : (t x : Bytes) → is_unfit t x ≡ false → Fit t x
unfolding is_unfit
fit t x e =
    let a = or_false (ltb (length x) (output_size connection_count)) (ltb (length t) (table_size connection_count) || not (is_sound connection_count t)) e in
    let b = or_false (ltb (length t) (table_size connection_count)) (not (is_sound connection_count t)) a.1 in
    record { room = ltb-false _ _ a.0; long = ltb-false _ _ b.0; sound = not-false (is_sound connection_count t) b.1 }

-- any answer has room
pub answer_room : (t x : Bytes) → Fit t x → (line : Bytes) → 0 + length (text_for line (table_of connection_count t)) ≤ length x
answer_room t x f line = omega (arith, text_room connection_count t f.sound 0 line, f.room)

-- ---- the answer, by whether something is said

module _ (t x : Bytes) (r : Bool) (e : r ≡ is_unfit t x) where
  pub unfit_said : r ≡ true → (c : Bytes) → report 0 x ≡ reported c t x
  unfolding reported
  unfit_said h c = rw (← e, h)

  module _ (h : r ≡ false) where
    pub answer_needs : (line : Bytes) → (table_size connection_count ≤ length t) × (is_sound connection_count t ≡ true) × (0 + length (text_for line (table_of connection_count t)) ≤ length x)
    answer_needs line = let f = fit t x (sym e ∙ h) in (f.long, f.sound, answer_room t x f line)

    -- the command's line was laid over z
    module _ (c z : Bytes) (l : command_size < length z) (y : Bytes) (end : ℕ) (p : (end ≡ 0 + length (command_line c)) × (y ≡ put 0 (command_line c) z)) where
      answer_back : (u : Table) → text_for (take end y) u ≡ answer_to c u
      unfolding command_line
      answer_back u = ap (λ (a : Bytes). text_for a u) (line_back c z l y end p) ∙ cut_command command_size c (omega arith) u

      pub answer_said : (n : ℕ) (v : Bytes) → (n ≡ 0 + length (text_for (take end y) (table_of connection_count t))) × (v ≡ put 0 (text_for (take end y) (table_of connection_count t)) x) → report n v ≡ reported c t x
      unfolding reported
      answer_said n v g = rw (← e, h, g.0, zero-add, g.1, answer_back (table_of connection_count t))
