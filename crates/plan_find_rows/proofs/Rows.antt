-- Rows by their columns: a search in the column of serials is the search among the rows, and since serials are distinct the job that a
-- connection holds is the one with its serial or none. Assumes nothing.
use Prim.Native.Nat.{ℕ, suc, ◌+◌, ◌*◌, ◌<◌}
use mathlib.Core.Path.{◌≡◌, refl, sym, ◌∙◌}
use mathlib.Core.Bool.{Bool, true, false, not, cond, ◌&&◌}
use Rattle.std.specs.Prelude.{Option, Some, None}
use mathlib.Core.List.{List, map}
use native.Mathlib.Numerals.{add-one}
use native.Mathlib.Omega.{arith}
use borrow.Author.Tests.{eqb-true, eq-eqb, ne_eqb, not-true}
use lib.ListN.{length, get_or, length-map, get_or-map}
use lib.Dec.{eqb}
use Rattle.octets.specs.Bytes.{Bytes}
use Rattle.octets.proofs.Strings.{and_false, and_left, and_right}
use Rattle.server.specs.declared.JobRow.{JobRow}
use Rattle.lists.specs.Lists.{find, numbers}
use Rattle.server.specs.Sizes.{connection_count, job_count}
use Rattle.server.specs.Table.{Job, no_row, no_job, job_at, live, rows_of, free_row}
use Rattle.server.specs.Rules.{serials_apart, serials_distinct}
use Rattle.server.specs.Layout.{little_at, row_in, job_in, table_of, is_image, serials_at}
use Rattle.server.specs.Call.{is_sound}
use Rattle.table_laws.proofs.Columns.{length_places}
use Rattle.lists.proofs.Searches.{found}
use Rattle.lists.proofs.Rows.{clash, all_at, pairwise_at}
use Rattle.server_laws.proofs.Obeyed.{obeyed}
use Rattle.plan.specs.Values.{serial_row, held_row, values_of}
use Rattle.plan.specs.Parts as P
use Rattle.table_rows.proofs.Reading.{rows_are}
use Rattle.lists.proofs.Alike.{find_places, find_by, find_nothing, find_narrow}

-- ---- by serial

-- the test of a row for the unfinished job with this serial
abbrev numbered : ℕ → JobRow → Bool
numbered s r = live r && eqb r.serial s

serial_some : (x s : ℕ) → (s ≡ 0 → ⊥) → eqb x s ≡ not (eqb x 0) && eqb x s
serial_some x s n = go (eqb x s) refl
  where
    go : (b : Bool) → eqb x s ≡ b → b ≡ not (eqb x 0) && b
    go true e = let z : x ≡ s = eqb-true x s e in rw (ne_eqb x 0 (λ q. n (sym z ∙ q)))
    go false e = sym (and_false (not (eqb x 0)))

not_not : (b : Bool) → b ≡ not (not b)
not_not true = refl
not_not false = refl

neither : (b : Bool) → not b && b ≡ false
neither true = refl
neither false = refl

-- no job has serial 0
pub none_numbered : (rs : List JobRow) (s : ℕ) → s ≡ 0 → None ≡ serial_row s rs
unfolding serial_row
none_numbered rs s e =
    let q : find (numbered s) rs ≡ None = rw e (find_nothing (numbered 0) no_row rs (λ i h. neither (eqb (get_or rs i no_row).serial 0))) in
    sym q

-- the column of serials, searched
module _ (b : Bytes) (s : ℕ) (l : List ℕ) (p : Option ℕ) (e : l ≡ map (λ k. little_at 4 b (serials_at + 4 * k)) (numbers 0 job_count)) (g : p ≡ find (λ k. eqb k s) l) where
  in_column : p ≡ find (λ r. eqb r.serial s) (rows_of (table_of connection_count b))
  in_column =
      let q : find (λ k. eqb k s) l ≡ find (λ r. eqb r.serial s) (rows_of (table_of connection_count b))
      = rw (e, rows_are b) (find_places (λ k. eqb k s) (λ (r : JobRow). eqb r.serial s) (λ k. little_at 4 b (serials_at + 4 * k)) (row_in connection_count b) 32 (λ k h. refl)) in
      g ∙ q

  pub free_found : s ≡ 0 → p ≡ free_row (rows_of (table_of connection_count b))
  unfolding free_row
  free_found z =
      let q : find (λ r. eqb r.serial s) (rows_of (table_of connection_count b)) ≡ find (λ r. not (live r)) (rows_of (table_of connection_count b))
      = rw z (find_by (λ r. eqb r.serial 0) (λ r. not (live r)) (λ r. not_not (eqb r.serial 0)) (rows_of (table_of connection_count b))) in
      in_column ∙ q

  pub serial_found : (s ≡ 0 → ⊥) → p ≡ serial_row s (rows_of (table_of connection_count b))
  unfolding serial_row
  serial_found n = in_column ∙ find_by (λ r. eqb r.serial s) (numbered s) (λ r. serial_some r.serial s n) (rows_of (table_of connection_count b))

-- ---- by serial and holder

reordered : (x y z : Bool) → (x && y) && z ≡ (x && z) && y
reordered true true true = refl
reordered true true false = refl
reordered true false true = refl
reordered true false false = refl
reordered false y z = refl

module _ (b : Bytes) where
  thirty_two : length (table_of connection_count b).jobs ≡ 32
  unfolding table_of
  thirty_two = length_places (job_in connection_count b) 0 32

  pub rows_long : length (rows_of (table_of connection_count b)) ≡ 32
  rows_long = length-map (table_of connection_count b).jobs (λ j. j.row) ∙ thirty_two

  job_row : (i : ℕ) → get_or (rows_of (table_of connection_count b)) i no_row ≡ (job_at (table_of connection_count b) i).row
  job_row i = get_or-map (λ (j : Job). j.row) (table_of connection_count b).jobs i no_job

module _ (b : Bytes) (sound : is_sound connection_count b ≡ true) where
  distinct : serials_distinct (table_of connection_count b) ≡ true
  unfolding is_sound
  distinct = (obeyed (table_of connection_count b) (and_right (is_image connection_count b) _ sound)).sound.serials

  -- two rows of one serial
  serials_clash : (s i k : ℕ) → i < k → k < job_count → numbered s (job_at (table_of connection_count b) i).row ≡ true → numbered s (job_at (table_of connection_count b) k).row ≡ true → ⊥
  serials_clash s i k l m x y =
      let j = (job_at (table_of connection_count b) i).row in
      let n = (job_at (table_of connection_count b) k).row in
      let a : serials_apart (job_at (table_of connection_count b) i) (job_at (table_of connection_count b) k) ≡ true
      = pairwise_at serials_apart (table_of connection_count b).jobs i k no_job distinct l (rw (thirty_two b) m) in
      let f : j.serial ≡ s = eqb-true _ _ (and_right (live j) _ x) in
      let g : n.serial ≡ s = eqb-true _ _ (and_right (live n) _ y) in
      clash a (rw (and_left (live j) _ x, f, g, eq-eqb s s refl))

  one_row : (s i k : ℕ) → i < job_count → k < job_count → numbered s (get_or (rows_of (table_of connection_count b)) i no_row) ≡ true → numbered s (get_or (rows_of (table_of connection_count b)) k no_row) ≡ true → k ≡ i
  one_row s i k h m x y =
      let f : numbered s (job_at (table_of connection_count b) i).row ≡ true = rw (job_row b i) at x in
      let g : numbered s (job_at (table_of connection_count b) k).row ≡ true = rw (job_row b k) at y in
      let p : i < k → ⊥ = λ l. serials_clash s i k l m f g in
      let q : k < i → ⊥ = λ l. serials_clash s k i l h g f in
      omega arith

  module _ (c s : ℕ) (o : Option ℕ) (e : o ≡ serial_row s (rows_of (table_of connection_count b))) where
    abbrev rs : List JobRow
    rs = rows_of (table_of connection_count b)

    held : held_row c s rs ≡ find (λ r. numbered s r && eqb r.holder (suc c)) rs
    unfolding held_row
    held = find_by _ _ (λ r. reordered (live r) (eqb r.holder (suc c)) (eqb r.serial s)) rs

    pub held_nowhere : o ≡ None → None ≡ held_row c s rs
    unfolding serial_row
    held_nowhere g =
        let q : serial_row s rs ≡ None = sym e ∙ g in
        let n : find (λ r. numbered s r && eqb r.holder (suc c)) rs ≡ None
        = find_nothing (λ r. numbered s r && eqb r.holder (suc c)) no_row rs
        (λ i h. rw (not-true (numbered s (get_or rs i no_row)) (all_at (λ r. not (numbered s r)) rs i no_row (found (numbered s) no_row rs None q) h))) in
        sym (held ∙ n)

    pub held_at : (p : ℕ) (row : JobRow) (r : Option ℕ) → o ≡ Some p → row ≡ P.row_in (values_of (table_of connection_count b)) p → r ≡ cond (eqb row.holder (c + 1)) (Some p) None
        → r ≡ held_row c s rs
    unfolding serial_row values_of
    held_at p row r g k m =
        let q : serial_row s rs ≡ Some p = sym e ∙ g in
        let hit = found (numbered s) no_row rs (Some p) q in
        let n : length rs ≡ 32 = rows_long b in
        let one = find_narrow (numbered s) (λ r. eqb r.holder (suc c)) no_row rs p q (λ i h t. one_row s p i (omega (arith, hit.inside)) (omega arith) hit.passes t) in
        m ∙ rw (k, add-one) (sym (held ∙ one))
