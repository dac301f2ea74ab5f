-- The text entry on lent bytes: what it answers to any line, that a terminal can show it, when it refuses, and that no opaque byte can show
-- in a text. Assumes nothing.
use Prim.Native.Nat.{ℕ, ◌≤◌}
use mathlib.Core.Path.{◌≡◌, refl, ap, sym, ◌∙◌}
use mathlib.Core.Bool.{Bool, true, false, not, cond, ◌||◌}
use mathlib.Core.List.{List, ◌∷◌}
use native.Mathlib.Omega.{arith}
use borrow.Author.Tests.{le-ltb, ltb-false, not-false}
use lib.ListN.{length, take, drop}
use lib.Dec.{ltb}
use lib.Seq.{take-append_seam}
use Rattle.octets.specs.Bytes.{Bytes, every}
use Rattle.octets.proofs.Strings.{and_right}
use Rattle.octets.proofs.Laying.{put_start}
use Rattle.lists.proofs.Rows.{or_false}
use Rattle.server.specs.Sizes.{workloads_size, output_size}
use Rattle.server.specs.Table.{Table}
use Rattle.server.specs.Rules.{is_open}
use Rattle.server.specs.Events.{is_connection}
use Rattle.server.specs.Server.{Server}
use Rattle.server.specs.Layout.{table_size, table_of, is_image, connection_in}
use Rattle.server.specs.Call.{Result, left, server_in, too_short, is_sound, refused_by}
use Rattle.table_laws.proofs.Columns.{length_places}
use Rattle.server_laws.proofs.Obeyed.{obeyed}
use Rattle.server_calls.specs.History.{Call, Memory}
use Rattle.server_calls.proofs.Histories.{LongOutputs}
use Rattle.server_blind.proofs.Blind.{tables_from}
use Rattle.server_blind.proofs.Calls.{AlikeEvents, events_alike}
use Rattle.prints.specs.Printed.{is_readable}
use Rattle.command.specs.Order.{in_order}
use Rattle.command.specs.Texts.{text_for}
use Rattle.command.specs.Say.{told, say}
use Rattle.command_laws.proofs.Rising.{listed_known, listed_once, listed_rises}
use Rattle.command_laws.proofs.Rules.{sound_prints}
use Rattle.command_laws.proofs.Counts.{jobs_counted, able_counted}
use Rattle.command_laws.proofs.Bounds.{text_room}
use Rattle.command_laws.proofs.Readable.{text_readable}
use Rattle.demands.specs.Hub.{Hub, after_calls, table_in, server_of}
use Rattle.demands.specs.Conditions.{first, bad_memory, line_conditions}
use Rattle.demands.specs.Commands.{Said, tells, silent, Listed, Counted, SameText}
use Rattle.demands.proofs.Hubs.{calls_hub, calls_after}

-- ---- any line on any bytes

module _ (n c : ℕ) (line t w o : Bytes) where
  abbrev said : Bytes
  said = text_for line (table_of n t)

  connections_are : length (table_of n t).connections ≡ n
  unfolding table_of
  connections_are = length_places (connection_in n t) 0 n

  -- a text fits an output that is long enough
  fits : bad_memory n t w o ≡ false → length (c ∷ said) ≤ length o
  unfolding too_short
  fits e =
      let (short, broken) = or_false (too_short n t w o) (not (is_sound n t)) e in
      let long = ltb-false (length o) (output_size n) (or_false (ltb (length w) workloads_size) _ (or_false (ltb (length t) (table_size n)) _ short).1).1 in
      omega (arith, long, text_room n t (not-false _ broken) c line)

  pub say_said : Said c said t w o (say n c line t w o)
  unfolding say told refused_by
  say_said = by (bad_memory n t w o) refl (is_connection (table_of n t) c) (is_open (table_of n t) c)
    where
      by : (x : Bool) → bad_memory n t w o ≡ x → (y z : Bool)
          → Said c said t w o (cond x (refused_by 1 t w o) (cond (not y) (refused_by 2 t w o) (cond (not z) (refused_by 3 t w o) (told c said t w o))))
      by true e y z = silent (omega arith) (omega arith) refl
      by false e false z = silent (omega arith) (omega arith) refl
      by false e true false = silent (omega arith) (omega arith) refl
      by false e true true = tells (fits e) (ap (λ (b : Bytes). left 0 (length (c ∷ said)) b t w) (put_start (c ∷ said) o (fits e)))

  -- what is told is the text of the line, behind the connection's byte; a refusal tells nothing
  pub say_readable : every is_readable (drop 1 (take (say n c line t w o).length' (say n c line t w o).output)) ≡ true
  unfolding every
  say_readable = by (say n c line t w o) say_said
    where
      by : (r : Result) → Said c said t w o r → every is_readable (drop 1 (take r.length' r.output)) ≡ true
      by r (tells h e) =
          ap (λ (q : Result). every is_readable (drop 1 (take q.length' q.output))) e
          ∙ ap (λ (b : Bytes). every is_readable (drop 1 b)) (take-append_seam (c ∷ said) (drop (length (c ∷ said)) o))
          ∙ text_readable line (table_of n t)
      by r (silent l m e) = ap (λ (q : Result). every is_readable (drop 1 (take q.length' q.output))) e

  pub say_number : (say n c line t w o).number ≡ first (line_conditions n c t w o)
  unfolding say told refused_by first line_conditions
  say_number = rw connections_are (by (bad_memory n t w o) (ltb c n) (is_open (table_of n t) c))
    where
      by : (x y z : Bool) → (cond x (refused_by 1 t w o) (cond (not y) (refused_by 2 t w o) (cond (not z) (refused_by 3 t w o) (told c said t w o)))).number ≡ cond x 1 (cond (not y) 2 (cond (not z) 3 0))
      by true y z = refl
      by false false z = refl
      by false true false = refl
      by false true true = refl

-- ---- lists

module _ (n : ℕ) (m : Memory) (hub : Hub n m) where
  pub hub_lists : Listed (table_in n m).functions (in_order (table_in n m).functions)
  unfolding is_sound
  hub_lists =
      let fs = (table_in n m).functions in
      record {
        known = listed_known fs;
        once = listed_once fs;
        rising = listed_rises fs (obeyed (table_in n m) (and_right (is_image n m.table) _ hub.sound)).sound.functions;
      }

  pub hub_counts : (q : ℕ) → Counted (table_in n m) q
  hub_counts q = record { together = jobs_counted (table_in n m) q; able = able_counted (table_in n m) (sound_prints n m.table hub.sound) q }

  -- whether the output is too short is all that the lent bytes decide beside the table
  abbrev spoken : ℕ → Bytes → Bytes → Table → Result
  spoken c line o u =
      let t = m.table in
      let w = m.workloads in
      cond (ltb (length o) (output_size n)) (refused_by 1 t w o) (cond (not (is_connection u c)) (refused_by 2 t w o) (cond (not (is_open u c)) (refused_by 3 t w o) (told c (text_for line u) t w o)))

  say_hub : (c : ℕ) (line o : Bytes) → say n c line m.table m.workloads o ≡ spoken c line o (table_in n m)
  unfolding say too_short
  say_hub c line o =
      rw (le-ltb (length m.table) (table_size n) hub.long_table, le-ltb (length m.workloads) workloads_size hub.long_workloads, hub.sound, or_nothing (ltb (length o) (output_size n)))
    where
      or_nothing : (b : Bool) → b || false ≡ b
      or_nothing true = refl
      or_nothing false = refl

-- ---- demand 3

pub texts_alike : (n : ℕ) {xs ys : List Call} → AlikeEvents xs ys → LongOutputs n xs → LongOutputs n ys → (m k : Memory) → Hub n m → Hub n k → table_in n m ≡ table_in n k
    → (c : ℕ) (line o : Bytes) → let u = after_calls n xs m in let v = after_calls n ys k in SameText (say n c line u.table u.workloads o) (say n c line v.table v.workloads o)
unfolding told refused_by server_in
texts_alike n {xs} {ys} e lx ly m k hm hk q c line o =
    let u = after_calls n xs m in
    let v = after_calls n ys k in
    rw (say_hub n u (calls_hub n xs m hm lx) c line o, say_hub n v (calls_hub n ys k hk ly) c line o, tables)
    (by (ltb (length o) (output_size n)) (is_connection (table_in n v) c) (is_open (table_in n v) c))
  where
    tables : table_in n (after_calls n xs m) ≡ table_in n (after_calls n ys k)
    tables =
        ap (λ (s : Server). s.table) (calls_after n xs m hm lx) ∙ tables_from (events_alike e) (server_of n m) (server_of n k) q
        ∙ sym (ap (λ (s : Server). s.table) (calls_after n ys k hk ly))

    by : (x y z : Bool) → let u = after_calls n xs m in let v = after_calls n ys k in let s = text_for line (table_in n v) in
        SameText (cond x (refused_by 1 u.table u.workloads o) (cond (not y) (refused_by 2 u.table u.workloads o) (cond (not z) (refused_by 3 u.table u.workloads o) (told c s u.table u.workloads o))))
        (cond x (refused_by 1 v.table v.workloads o) (cond (not y) (refused_by 2 v.table v.workloads o) (cond (not z) (refused_by 3 v.table v.workloads o) (told c s v.table v.workloads o))))
    by true y z = record { number = refl; length' = refl; output = refl }
    by false false z = record { number = refl; length' = refl; output = refl }
    by false true false = record { number = refl; length' = refl; output = refl }
    by false true true = record { number = refl; length' = refl; output = refl }
