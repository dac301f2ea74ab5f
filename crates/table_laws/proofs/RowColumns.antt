-- The columns of the jobs' rows, one after the other: how long they are, where each lies, how a row is read back from them, one row laid
-- over them, and their bytes compared. Others take them as one run, so that a new number of a row is a line more here. Assumes nothing.
use Prim.Native.Nat.{ℕ, ◌+◌, ◌-◌, ◌*◌, ◌^◌, ◌<◌, ◌≤◌}
use mathlib.Core.Path.{◌≡◌, refl, sym, ap, ◌∙◌}
use mathlib.Core.Bool.{Bool, ◌&&◌}
use mathlib.Core.List.{List, [], ◌∷◌, ◌++◌, map, append_assoc, append-nil}
use native.Mathlib.Nat.{one-mul}
use native.Mathlib.Omega.{arith}
use lib.ListN.{length, get_or, set, length-append, length-set}
use Rattle.octets.specs.Bytes.{Bytes, same}
use Rattle.octets.specs.Put.{put}
use Rattle.lists.specs.Lists.{numbers}
use Rattle.server.specs.declared.JobRow.{JobRow}
use Rattle.server.specs.Sizes.{job_count}
use Rattle.server.specs.Table.{Job, no_job}
use Rattle.server.specs.Layout.{little, little_at, flag_byte, column, row_bytes, row_in, job_in, set_size, table_size, serials_at, sizes_at, holders_at, priorities_at, backgrounds_at, functions_at, names_at, listeners_at}
use Rattle.server.proofs.Rows.{RangeFits, row_is}
use Rattle.table_laws.specs.Tests.{part, are_flags}
use Rattle.table_laws.specs.Rows.{row_laid}
use Rattle.table_laws.proofs.Fields.{Lies, lies_left, lies_right, length_little, byte_is}
use Rattle.table_laws.proofs.Columns.{numbers_long, flags_long, number_at, byte_at, flag_at_lem}
use Rattle.table_laws.proofs.ColumnPuts.{column_same, laid, Over, next, next1}
use Rattle.table_laws.proofs.Same.{Agrees, next_numbers, next_flags}

-- ---- the columns

-- how many bytes they are
abbrev pub rows_size : ℕ
rows_size = names_at - serials_at

-- the columns, and then the rest
abbrev rows_then : List Job → Bytes → Bytes
rows_then js r =
    column (λ j. little 4 j.row.serial) js
    ++ (column (λ j. little 2 j.row.size) js
    ++ (column (λ j. little 2 j.row.holder) js
    ++ (column (λ j. little 1 j.row.priority) js
    ++ (column (λ j. flag_byte j.row.background) js
    ++ (column (λ j. little 1 j.row.function) js ++ r)))))

rows_then_lem : (js : List Job) (r : Bytes) → row_bytes js ++ r ≡ rows_then js r
unfolding row_bytes
rows_then_lem js r = simp append_assoc

abbrev column_sizes : List ℕ
column_sizes = 4 * job_count ∷ 2 * job_count ∷ 2 * job_count ∷ 1 * job_count ∷ job_count ∷ 1 * job_count ∷ []

-- before and behind them p and q
abbrev segments : Bytes → List Job → Bytes → List Bytes
segments p js q =
    p
    ∷ column (λ j. little 4 j.row.serial) js
    ∷ column (λ j. little 2 j.row.size) js
    ∷ column (λ j. little 2 j.row.holder) js
    ∷ column (λ j. little 1 j.row.priority) js
    ∷ column (λ j. flag_byte j.row.background) js
    ∷ column (λ j. little 1 j.row.function) js
    ∷ q
    ∷ []

module _ (js : List Job) (e : length js ≡ job_count) where
  widths : (p q : Bytes) → map length (segments p js q) ≡ length p ∷ (column_sizes ++ (length q ∷ []))
  widths p q =
      rw (
        numbers_long 4 (λ j. j.row.serial) js job_count e,
        numbers_long 2 (λ j. j.row.size) js job_count e,
        numbers_long 2 (λ j. j.row.holder) js job_count e,
        numbers_long 1 (λ j. j.row.priority) js job_count e,
        flags_long (λ j. j.row.background) js job_count e,
        numbers_long 1 (λ j. j.row.function) js job_count e,
      )

  pub rows_long : length (row_bytes js) ≡ rows_size
  unfolding row_bytes
  rows_long =
      simp (
        length-append,
        numbers_long 4 (λ j. j.row.serial) js job_count e,
        numbers_long 2 (λ j. j.row.size) js job_count e,
        numbers_long 2 (λ j. j.row.holder) js job_count e,
        numbers_long 1 (λ j. j.row.priority) js job_count e,
        flags_long (λ j. j.row.background) js job_count e,
        numbers_long 1 (λ j. j.row.function) js job_count e,
      )

-- ---- where they lie

pub record RowsLaid (js : List Job) (b : Bytes) : Type 0 where
  pub serial : Lies b serials_at (column (λ j. little 4 j.row.serial) js)
  pub size : Lies b sizes_at (column (λ j. little 2 j.row.size) js)
  pub holder : Lies b holders_at (column (λ j. little 2 j.row.holder) js)
  pub priority : Lies b priorities_at (column (λ j. little 1 j.row.priority) js)
  pub background : Lies b backgrounds_at (column (λ j. flag_byte j.row.background) js)
  pub function : Lies b functions_at (column (λ j. little 1 j.row.function) js)

-- what follows k bytes that lie at a place
pub next_lies : {b : Bytes} {at : ℕ} (s : Bytes) {t : Bytes} (k to : ℕ) → Lies b at (s ++ t) → length s ≡ k → at + k ≡ to → Lies b to t
next_lies {b} {at} s {t} k to l e f = lies_right b at s t to l (ap (λ (n : ℕ). at + n) e ∙ f)

pub rows_laid : (js : List Job) (b : Bytes) → length js ≡ job_count → Lies b serials_at (row_bytes js) → RowsLaid js b
unfolding row_bytes
rows_laid js b e l1 =
    let l2 = next_lies (column (λ j. little 4 j.row.serial) js) (4 * job_count) sizes_at l1 (numbers_long 4 (λ j. j.row.serial) js job_count e) refl in
    let l3 = next_lies (column (λ j. little 2 j.row.size) js) (2 * job_count) holders_at l2 (numbers_long 2 (λ j. j.row.size) js job_count e) refl in
    let l4 = next_lies (column (λ j. little 2 j.row.holder) js) (2 * job_count) priorities_at l3 (numbers_long 2 (λ j. j.row.holder) js job_count e) refl in
    let l5 = next_lies (column (λ j. little 1 j.row.priority) js) (1 * job_count) backgrounds_at l4 (numbers_long 1 (λ j. j.row.priority) js job_count e) refl in
    let l6 = next_lies (column (λ j. flag_byte j.row.background) js) job_count functions_at l5 (flags_long (λ j. j.row.background) js job_count e) refl in
    record {
      serial = lies_left b _ _ _ l1;
      size = lies_left b _ _ _ l2;
      holder = lies_left b _ _ _ l3;
      priority = lies_left b _ _ _ l4;
      background = lies_left b _ _ _ l5;
      function = l6;
    }

-- ---- a row read back

-- the numbers of a row fit their places, with n connections
pub record RowFits (n : ℕ) (r : JobRow) : Type 0 where
  pub serial : r.serial < 2 ^ 32
  pub listeners : r.listeners < 256 ^ set_size n
  pub size : r.size < 65536
  pub range : RangeFits r

pub row_back : (n : ℕ) (b : Bytes) (js : List Job) (p : ℕ) → RowsLaid js b → Lies b (listeners_at n) (column (λ j. little (set_size n) j.row.listeners) js) → p < length js
    → RowFits n (get_or js p no_job).row → row_in n b p ≡ (get_or js p no_job).row
row_back n b js p l s i f =
    row_is (get_or js p no_job).row
    (number_at b _ js p no_job i 4 (λ j. j.row.serial) l.serial f.serial)
    (byte_at b _ js p no_job i (λ j. j.row.function) l.function f.range.function)
    (byte_at b _ js p no_job i (λ j. j.row.priority) l.priority f.range.priority)
    (flag_at_lem b _ js p no_job i (λ j. j.row.background) l.background)
    (number_at b _ js p no_job i (set_size n) (λ j. j.row.listeners) s f.listeners)
    (number_at b _ js p no_job i 2 (λ j. j.row.holder) l.holder f.range.holder)
    (number_at b _ js p no_job i 2 (λ j. j.row.size) l.size f.size)

-- ---- a row laid over them

-- a job that keeps its row
pub rows_same : (js : List Job) (p : ℕ) (j : Job) → j.row ≡ (get_or js p no_job).row → row_bytes (set js p j) ≡ row_bytes js
unfolding row_bytes
rows_same js p j e =
    rw (
      column_same (λ (j : Job). little 4 j.row.serial) js p j no_job (ap (λ (r : JobRow). little 4 r.serial) e),
      column_same (λ (j : Job). little 2 j.row.size) js p j no_job (ap (λ (r : JobRow). little 2 r.size) e),
      column_same (λ (j : Job). little 2 j.row.holder) js p j no_job (ap (λ (r : JobRow). little 2 r.holder) e),
      column_same (λ (j : Job). little 1 j.row.priority) js p j no_job (ap (λ (r : JobRow). little 1 r.priority) e),
      column_same (λ (j : Job). flag_byte j.row.background) js p j no_job (ap (λ (r : JobRow). flag_byte r.background) e),
      column_same (λ (j : Job). little 1 j.row.function) js p j no_job (ap (λ (r : JobRow). little 1 r.function) e),
    )

module _ (js : List Job) (e : length js ≡ job_count) (p : ℕ) (h : p < job_count) (j : Job) where
  inside : p < length js
  inside = rw e h

  row_put : (a q b : Bytes) → length a ≡ serials_at → row_laid p j.row (put 0 (a ++ (row_bytes js ++ q)) b) ≡ put 0 (a ++ (row_bytes (set js p j) ++ q)) b
  row_put a q b l =
      let flat : (xs : List Job) → a ++ (row_bytes xs ++ q) ≡ laid (segments a xs q) = λ xs. ap (λ (r : Bytes). a ++ r) (rows_then_lem xs q ∙ ap (rows_then xs) (sym (append-nil q))) in
      let o0 : Over b (serials_at ∷ (column_sizes ++ (length q ∷ []))) (put 0 (a ++ (row_bytes js ++ q)) b) (segments a js q) =
      record { is = ap (λ (s : Bytes). put 0 s b) (flat js); widths = widths js e a q ∙ ap (λ (k : ℕ). k ∷ (column_sizes ++ (length q ∷ []))) l } in
      let o1 = next o0 (λ (j : Job). little 4 j.row.serial) 4 (λ j. length_little 4 j.row.serial) 1 serials_at js p j refl (omega arith) refl inside in
      let o2 = next o1 (λ (j : Job). little 2 j.row.size) 2 (λ j. length_little 2 j.row.size) 2 sizes_at js p j refl (omega arith) refl inside in
      let o3 = next o2 (λ (j : Job). little 2 j.row.holder) 2 (λ j. length_little 2 j.row.holder) 3 holders_at js p j refl (omega arith) refl inside in
      let o4 = next1 o3 (λ (j : Job). little 1 j.row.priority) (λ j. length_little 1 j.row.priority) 4 priorities_at js p j refl (omega arith) refl inside in
      let o5 = next1 o4 (λ (j : Job). flag_byte j.row.background) (λ j. refl) 5 backgrounds_at js p j refl (omega arith) refl inside in
      let o6 = next1 o5 (λ (j : Job). little 1 j.row.function) (λ j. length_little 1 j.row.function) 6 functions_at js p j refl (omega arith) refl inside in
      o6.is ∙ ap (λ (s : Bytes). put 0 s b) (sym (flat (set js p j)))

  -- as one of a table's runs, the second
  pub next_row : {b : Bytes} {ws : List ℕ} {x a : Bytes} {rest : List Bytes} → length a ≡ serials_at → Over b ws x (a ∷ row_bytes js ∷ rest) → Over b ws (row_laid p j.row x) (a ∷ row_bytes (set js p j) ∷ rest)
  next_row {b} {ws} {x} {a} {rest} l o =
      record {
        is = ap (row_laid p j.row) o.is ∙ row_put a (laid rest) b l;
        widths = ap (λ (k : ℕ). length a ∷ k ∷ map length rest) (rows_long (set js p j) (length-set js p j ∙ e) ∙ sym (rows_long js e)) ∙ o.widths;
      }

-- ---- their bytes compared

module _ (n : ℕ) (b : Bytes) (small : (i : ℕ) → get_or b i 0 < 256) (long : table_size n ≤ length b) where
  -- a number in one byte
  one_byte : (at i : ℕ) → get_or b (at + i) 0 ≡ little_at 1 b (at + 1 * i)
  one_byte at i = rw one-mul (sym (byte_is b (at + i)))

  -- of all numbers only the flags say something
  pub next_rows : {rest : ℕ} {r : Bytes} {q : Bool} → Agrees rest b names_at r q
      → Agrees (rows_size + rest) b serials_at (row_bytes (map (job_in n b) (numbers 0 job_count)) ++ r) (are_flags job_count b backgrounds_at && q)
  next_rows {rest} {r} a =
      let j = job_in n b in
      let js = map (job_in n b) (numbers 0 job_count) in
      let k : rows_size + rest ≡ 4 * job_count + (2 * job_count + (2 * job_count + (1 * job_count + (job_count + (1 * job_count + rest))))) = omega arith in
      let c =
      next_numbers b j 4 job_count (λ x. x.row.serial) serials_at small (omega arith) (λ i. refl)
      (next_numbers b j 2 job_count (λ x. x.row.size) sizes_at small (omega arith) (λ i. refl)
      (next_numbers b j 2 job_count (λ x. x.row.holder) holders_at small (omega arith) (λ i. refl)
      (next_numbers b j 1 job_count (λ x. x.row.priority) priorities_at small (omega arith) (one_byte priorities_at)
      (next_flags b j job_count (λ x. x.row.background) backgrounds_at (omega arith) (λ i. refl)
      (next_numbers b j 1 job_count (λ x. x.row.function) functions_at small (omega arith) (one_byte functions_at) a))))) in
      record { agrees = ap (λ (s : Bytes). same (part (rows_size + rest) b serials_at) s) (rows_then_lem js r) ∙ ap (λ (m : ℕ). same (part m b serials_at) (rows_then js r)) k ∙ c.agrees }
