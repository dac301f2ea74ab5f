-- How a step meets the definition of what is shown: where it is told, there was a table before the event and there is one after it.
-- Assumes nothing.
use Prim.Native.Nat.{ℕ, ◌+◌, ◌<◌, ◌≤◌}
use mathlib.Core.Path.{◌≡◌, refl, ap, sym, subst}
use mathlib.Core.Bool.{Bool, true, false, not, cond, ◌||◌}
use Rattle.std.specs.Prelude.{Option, Some, None}
use mathlib.Core.List.{List, [], ◌++◌}
use native.Mathlib.Omega.{arith}
use borrow.Author.Tests.{eqb-false}
use lib.ListN.{length, take}
use lib.Dec.{eqb}
use Rattle.octets.specs.Bytes.{Bytes}
use Rattle.octets.specs.Put.{put}
use Rattle.octets.proofs.Runs.{laid_as}
use Rattle.server.specs.declared.JobRow.{JobRow}
use Rattle.server.specs.Sizes.{connection_count}
use Rattle.server.specs.Requests.{Event}
use Rattle.server.specs.Table.{Table, rows_of}
use Rattle.server.specs.Rules.{hub_named}
use Rattle.server.specs.Layout.{table_of, table_size}
use Rattle.server.specs.Call.{Result, server_in, too_short, is_sound, refused_by, performed, call, left}
use Rattle.server.specs.Replay.{frame}
use Rattle.server_calls.proofs.Refusals.{Taken, taken}
use Rattle.server_calls.proofs.EveryCall.{every_call}
use Rattle.carry_output.proofs.Jobs.{hub_good}
use Rattle.capture.specs.Packets.{packets_in}
use Rattle.capture.specs.Spoken.{answered_to, telling}
use Rattle.capture.proofs.Telling.{frame_told, short_told}
use Rattle.show_table.specs.Standing.{sleepers_text}
use Rattle.show_parts.specs.Parts.{jobs_after, table_text}
use Rattle.show_line.specs.Shown.{line_text, line_with, shown, text_size}

-- ---- the table before the event and after it

-- bytes that held a table, and the bytes that are left of them, whose hub has a name
record Tables (t u : Bytes) : Type 0 where
  before : table_size connection_count ≤ length t
  after : table_size connection_count ≤ length u
  named : hub_named (table_of connection_count u) ≡ true

module _ (t w o : Bytes) where
  tables_taken : (e : Event) → Taken connection_count t w o → Tables t (call connection_count e t w o).table
  unfolding is_sound
  tables_taken e k =
      let c = every_call connection_count (omega arith) e t w o in
      let sound : is_sound connection_count t ≡ true = rw k.image k.rules in
      record {
        before = k.long_table;
        after = omega (arith, c.length_table, k.long_table);
        named = hub_good (call connection_count e t w o).table (c.stays_sound sound);
      }

  -- where it is refused neither by 1 nor by 16, there is a table
  tables_called : (e : Event) → ((call connection_count e t w o).number ≡ 1 → ⊥) → Tables t (call connection_count e t w o).table
  unfolding call refused_by
  tables_called e = go (too_short connection_count t w o || not (is_sound connection_count t)) refl
    where
      go : (b : Bool) → too_short connection_count t w o || not (is_sound connection_count t) ≡ b
          → ((cond b (refused_by 1 t w o) (performed e (server_in connection_count t w) t w o)).number ≡ 1 → ⊥) → Tables t (call connection_count e t w o).table
      go true q h = absurd (h refl)
      go false q h = tables_taken e (taken connection_count t w o q)

  tables_answered : (v : Option Event) → ((answered_to v t w o).number ≡ 1 → ⊥) → ((answered_to v t w o).number ≡ 16 → ⊥) → Tables t (answered_to v t w o).table
  unfolding answered_to refused_by
  tables_answered None a b = absurd (b refl)
  tables_answered (Some e) a b = tables_called e a

-- ---- the rows before the event count only where there is a table

module _ (k : ℕ) (f : Option Event) (ps : List Bytes) (n : ℕ) (a b : List JobRow) (t : Table) (same : (n ≡ 1 → ⊥) → (n ≡ 16 → ⊥) → a ≡ b) where
  same_table : table_text f ps n a t ≡ table_text f ps n b t
  unfolding table_text
  same_table = go (eqb n 1) (eqb n 16) refl refl
    where
      words : List JobRow → Bytes
      words rs = sleepers_text connection_count t.connections ++ jobs_after t.hub f ps n rs (rows_of t)

      go : (x y : Bool) → eqb n 1 ≡ x → eqb n 16 ≡ y → cond (x || y) [] (words a) ≡ cond (x || y) [] (words b)
      go true y p q = refl
      go false true p q = refl
      go false false p q = ap words (same (eqb-false n 1 p) (eqb-false n 16 q))

  same_line : line_with k f ps n a t ≡ line_with k f ps n b t
  unfolding line_with
  same_line = rw same_table

-- ---- a line

module _ (t w o : Bytes) where
  pub short_text : (k : ℕ) (line x : Bytes) → length x < text_size → telling 0 x o t w ≡ shown k line t w o x
  unfolding shown
  short_text k line x h = short_told t w o text_size (line_text k) line x h

  module _ (v : Option Event) (n l : ℕ) (p u s : Bytes) (q : left n l p u s ≡ answered_to v t w o) where
    tables : (n ≡ 1 → ⊥) → (n ≡ 16 → ⊥) → Tables t u
    tables = subst (λ (r : Result). (r.number ≡ 1 → ⊥) → (r.number ≡ 16 → ⊥) → Tables t r.table) (sym q) (tables_answered t w o v)

    pub table_left_lem : (n ≡ 1 → ⊥) → (n ≡ 16 → ⊥) → (table_size connection_count ≤ length u) × (hub_named (table_of connection_count u) ≡ true)
    table_left_lem a b = let k = tables a b in (k.after, k.named)

    -- with the rows that were read from the table before the event, if it is a table
    pub line_shown : (k : ℕ) (line x : Bytes) → text_size ≤ length x → v ≡ frame line
        → (before : List JobRow) → (table_size connection_count ≤ length t → before ≡ rows_of (table_of connection_count t)) → (r : ℕ) (y : Bytes)
        → (r ≡ 0 + length (line_with k v (packets_in (take l p)) n before (table_of connection_count u))) × (y ≡ put 0 (line_with k v (packets_in (take l p)) n before (table_of connection_count u)) x)
        → telling r y p u s ≡ shown k line t w o x
    unfolding shown
    line_shown k line x h e before known r y g =
        let m = same_line k v (packets_in (take l p)) n before (rows_of (table_of connection_count t)) (table_of connection_count u) (λ a b. known (tables a b).before) in
        frame_told t w o v n l p u s q text_size (line_text k) line x h e r y (laid_as _ _ m 0 r y x g)
