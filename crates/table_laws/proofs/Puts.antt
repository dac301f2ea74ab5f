-- One job, function, connection, client id, the hub's name or the last serial laid over the bytes of a table: the bytes of the table with
-- it. Each is the law of one field, at every column of its kind. A table has 16 functions and 32 jobs, and any number of connections and
-- ids. Assumes nothing.
use Prim.Native.Nat.{ℕ, ◌+◌, ◌*◌, ◌<◌}
use mathlib.Core.Path.{◌≡◌, refl, sym, ap, ◌∙◌}
use mathlib.Core.Bool.{Bool}
use mathlib.Core.List.{List, [], ◌∷◌, map, append-nil}
use native.Mathlib.Omega.{arith}
use lib.ListN.{length, set, length-set}
use Rattle.octets.specs.Bytes.{Bytes}
use Rattle.octets.specs.Put.{put}
use Rattle.server.specs.declared.Connection.{Connection}
use Rattle.server.specs.declared.JobRow.{JobRow}
use Rattle.lists.specs.Lists.{fit}
use Rattle.server.specs.Sizes.{function_count, job_count, name_size, unique_size, number_size, id_size, hub_size}
use Rattle.server.specs.Table.{Function, Job, Table, closed, no_job, no_function, connection_at, job_at, function_at, set_connection, set_id, set_function, set_job, with_row, with_texts, with_last_serial, with_asleep, with_name, with_able, with_hub}
use Rattle.server.specs.Layout.{little, flag_byte, column, row_bytes, bytes_of, set_size, able_at, listeners_at, names_at, uniques_at, numerators_at, denominators_at, hub_at, opened_at, asleep_at, exceptions_at, ids_at}
use Rattle.lists.proofs.Lists.{length_fit}
use Rattle.table_laws.proofs.Fields.{length_little}
use Rattle.table_laws.proofs.Columns.{numbers_long, flags_long, texts_long}
use Rattle.table_laws.specs.Rows.{row_laid}
use Rattle.table_laws.proofs.RowColumns.{rows_size, rows_long, rows_same, next_row}
use Rattle.table_laws.proofs.ColumnPuts.{column_same, laid, Over, next, next1, put_middle}

-- a table of the product's size
pub record Sized (t : Table) : Type 0 where
  pub functions : length t.functions ≡ function_count
  pub jobs : length t.jobs ≡ job_count

-- ---- the columns of a table

-- n connections; the numbers of js, the uniques of us, the stored texts of ns, the names of fs, the sets of xs, the flags of cs, the ids is
-- and the hub's name
abbrev pub segments_of : ℕ → ℕ → List Job → List Job → List Job → List Function → List Function → List Connection → List Bytes → Bytes → List Bytes
segments_of n last js us ns fs xs cs is hub =
    little 4 last
    ∷ row_bytes js
    ∷ column (λ x. fit name_size x.name) fs
    ∷ column (λ j. fit unique_size j.unique) us
    ∷ column (λ j. fit number_size j.numerator) ns
    ∷ column (λ j. fit number_size j.denominator) ns
    ∷ fit hub_size hub
    ∷ column (λ x. little (set_size n) x.able) xs
    ∷ column (λ j. little (set_size n) j.row.listeners) js
    ∷ column (λ x. flag_byte x.opened) cs
    ∷ column (λ x. flag_byte x.asleep) cs
    ∷ column (λ x. flag_byte x.exceptions) cs
    ∷ column (fit id_size) is
    ∷ []

abbrev pub segments : Table → List Bytes
segments t = segments_of (length t.connections) t.last t.jobs t.jobs t.jobs t.functions t.functions t.connections t.ids t.hub

-- n connections and m ids
abbrev pub widths_for : ℕ → ℕ → List ℕ
widths_for n m =
    4 ∷ rows_size ∷ name_size * function_count ∷ unique_size * job_count
    ∷ number_size * job_count ∷ number_size * job_count ∷ hub_size ∷ set_size n * function_count ∷ set_size n * job_count ∷ n ∷ n ∷ n ∷ id_size * m ∷ []

pub bytes_laid : (t : Table) → bytes_of t ≡ laid (segments t)
unfolding bytes_of
bytes_laid t = simp append-nil

module _ (t : Table) (z : Sized t) where
  abbrev n : ℕ
  n = length t.connections

  abbrev m : ℕ
  m = length t.ids

  pub widths : map length (segments t) ≡ widths_for n m
  widths =
      rw (
        length_little 4 t.last,
        rows_long t.jobs z.jobs,
        texts_long name_size (λ x. x.name) t.functions function_count z.functions,
        texts_long unique_size (λ j. j.unique) t.jobs job_count z.jobs,
        texts_long number_size (λ j. j.numerator) t.jobs job_count z.jobs,
        texts_long number_size (λ j. j.denominator) t.jobs job_count z.jobs,
        length_fit hub_size t.hub,
        numbers_long (set_size n) (λ x. x.able) t.functions function_count z.functions,
        numbers_long (set_size n) (λ j. j.row.listeners) t.jobs job_count z.jobs,
        flags_long (λ x. x.opened) t.connections n refl,
        flags_long (λ x. x.asleep) t.connections n refl,
        flags_long (λ x. x.exceptions) t.connections n refl,
        texts_long id_size (λ x. x) t.ids m refl,
      )

  start : (b : Bytes) → Over b (widths_for n m) (put 0 (bytes_of t) b) (segments t)
  start b = record { is = ap (λ (s : Bytes). put 0 s b) (bytes_laid t); widths = widths }

  finish : (b x : Bytes) (u : Table) → Over b (widths_for n m) x (segments u) → x ≡ put 0 (bytes_of u) b
  finish b x u o = o.is ∙ ap (λ (s : Bytes). put 0 s b) (sym (bytes_laid u))

  -- ---- one job

  module _ (b : Bytes) (p : ℕ) (h : p < job_count) where
    inside : p < length t.jobs
    inside = rw z.jobs h

    -- the numbers of a row
    abbrev pub row_puts : JobRow → Bytes → Bytes
    row_puts r x = row_laid p r (put (listeners_at n + set_size n * p) (little (set_size n) r.listeners) x)

    -- the three texts
    abbrev pub text_puts : Job → Bytes → Bytes
    text_puts j x = put (denominators_at + number_size * p) (fit number_size j.denominator) (put (numerators_at + number_size * p) (fit number_size j.numerator) (put (uniques_at + unique_size * p) (fit unique_size j.unique) x))

    row_over : (j : Job) → Over b (widths_for n m) (row_puts j.row (put 0 (bytes_of t) b)) (segments_of n t.last (set t.jobs p j) t.jobs t.jobs t.functions t.functions t.connections t.ids t.hub)
    row_over j =
        let o1 = next (start b) (λ (j : Job). little (set_size n) j.row.listeners) (set_size n) (λ j. length_little (set_size n) j.row.listeners) 8 (listeners_at n) t.jobs p j refl (omega arith) (omega arith) inside in
        next_row t.jobs z.jobs p h j (length_little 4 t.last) o1

    pub put_job : (j : Job) → text_puts j (row_puts j.row (put 0 (bytes_of t) b)) ≡ put 0 (bytes_of (set_job t p j)) b
    put_job j =
        let o0 = row_over j in
        let o1 = next o0 (λ (j : Job). fit unique_size j.unique) unique_size (λ j. length_fit unique_size j.unique) 3 uniques_at t.jobs p j refl (omega arith) refl inside in
        let o2 = next o1 (λ (j : Job). fit number_size j.numerator) number_size (λ j. length_fit number_size j.numerator) 4 numerators_at t.jobs p j refl (omega arith) refl inside in
        finish b _ (set_job t p j) (next o2 (λ (j : Job). fit number_size j.denominator) number_size (λ j. length_fit number_size j.denominator) 5 denominators_at t.jobs p j refl (omega arith) refl inside)

    -- a job that keeps its texts
    pub put_row_lem : (r : JobRow) → row_puts r (put 0 (bytes_of t) b) ≡ put 0 (bytes_of (set_job t p (with_row r (job_at t p)))) b
    put_row_lem r =
        let y : Job = with_row r (job_at t p) in
        (row_over y).is
        ∙ ap (λ (s : Bytes). put 0 s b)
        (sym (bytes_laid (set_job t p y)
        ∙ rw (
          column_same (λ (j : Job). fit unique_size j.unique) t.jobs p y no_job refl,
          column_same (λ (j : Job). fit number_size j.numerator) t.jobs p y no_job refl,
          column_same (λ (j : Job). fit number_size j.denominator) t.jobs p y no_job refl,
        )))

    -- a job that keeps its row
    texts_over : (j : Job) → j.row ≡ (job_at t p).row → (us : List Job) → column (λ j. fit unique_size j.unique) us ≡ column (λ j. fit unique_size j.unique) (set t.jobs p j)
        → laid (segments_of n t.last t.jobs us (set t.jobs p j) t.functions t.functions t.connections t.ids t.hub) ≡ bytes_of (set_job t p j)
    texts_over j e us u =
        sym (bytes_laid (set_job t p j)
        ∙ rw (
          rows_same t.jobs p j e,
          column_same (λ (j : Job). little (set_size n) j.row.listeners) t.jobs p j no_job (ap (λ (r : JobRow). little (set_size n) r.listeners) e),
          u,
        ))

    pub put_texts : (j : Job) → j.row ≡ (job_at t p).row → text_puts j (put 0 (bytes_of t) b) ≡ put 0 (bytes_of (set_job t p j)) b
    put_texts j e =
        let o1 = next (start b) (λ (j : Job). fit unique_size j.unique) unique_size (λ j. length_fit unique_size j.unique) 3 uniques_at t.jobs p j refl (omega arith) refl inside in
        let o2 = next o1 (λ (j : Job). fit number_size j.numerator) number_size (λ j. length_fit number_size j.numerator) 4 numerators_at t.jobs p j refl (omega arith) refl inside in
        let o3 = next o2 (λ (j : Job). fit number_size j.denominator) number_size (λ j. length_fit number_size j.denominator) 5 denominators_at t.jobs p j refl (omega arith) refl inside in
        o3.is ∙ ap (λ (s : Bytes). put 0 s b) (texts_over j e (set t.jobs p j) refl)

    -- a job that keeps its unique too
    pub put_numbers : (n d : Bytes) → put (denominators_at + number_size * p) (fit number_size d) (put (numerators_at + number_size * p) (fit number_size n) (put 0 (bytes_of t) b)) ≡ put 0 (bytes_of (set_job t p (with_texts n d (job_at t p)))) b
    put_numbers n d =
        let j : Job = with_texts n d (job_at t p) in
        let o1 = next (start b) (λ (j : Job). fit number_size j.numerator) number_size (λ j. length_fit number_size j.numerator) 4 numerators_at t.jobs p j refl (omega arith) refl inside in
        let o2 = next o1 (λ (j : Job). fit number_size j.denominator) number_size (λ j. length_fit number_size j.denominator) 5 denominators_at t.jobs p j refl (omega arith) refl inside in
        o2.is ∙ ap (λ (s : Bytes). put 0 s b) (texts_over j refl t.jobs (sym (column_same (λ (j : Job). fit unique_size j.unique) t.jobs p j no_job refl)))

  -- ---- one function

  module _ (b : Bytes) (q : ℕ) (h : q < function_count) where
    inside_functions : q < length t.functions
    inside_functions = rw z.functions h

    pub put_function : (x : Function) → put (names_at + name_size * q) (fit name_size x.name) (put (able_at + set_size n * q) (little (set_size n) x.able) (put 0 (bytes_of t) b)) ≡ put 0 (bytes_of (set_function t q x)) b
    put_function x =
        let o1 = next (start b) (λ (x : Function). little (set_size n) x.able) (set_size n) (λ x. length_little (set_size n) x.able) 7 able_at t.functions q x refl (omega arith) refl inside_functions in
        finish b _ (set_function t q x) (next o1 (λ (x : Function). fit name_size x.name) name_size (λ x. length_fit name_size x.name) 2 names_at t.functions q x refl (omega arith) refl inside_functions)

    -- a function that keeps its set
    pub put_name : (a : Bytes) → put (names_at + name_size * q) (fit name_size a) (put 0 (bytes_of t) b) ≡ put 0 (bytes_of (set_function t q (with_name a (function_at t q)))) b
    put_name a =
        let x : Function = with_name a (function_at t q) in
        let o1 = next (start b) (λ (x : Function). fit name_size x.name) name_size (λ x. length_fit name_size x.name) 2 names_at t.functions q x refl (omega arith) refl inside_functions in
        o1.is
        ∙ ap (λ (s : Bytes). put 0 s b) (sym (bytes_laid (set_function t q x) ∙ rw (column_same (λ (x : Function). little (set_size n) x.able) t.functions q x no_function refl)))

    -- a function that keeps its name
    pub put_able : (s : ℕ) → put (able_at + set_size n * q) (little (set_size n) s) (put 0 (bytes_of t) b) ≡ put 0 (bytes_of (set_function t q (with_able s (function_at t q)))) b
    put_able s =
        let x : Function = with_able s (function_at t q) in
        let o1 = next (start b) (λ (x : Function). little (set_size n) x.able) (set_size n) (λ x. length_little (set_size n) x.able) 7 able_at t.functions q x refl (omega arith) refl inside_functions in
        o1.is
        ∙ ap (λ (s : Bytes). put 0 s b) (sym (bytes_laid (set_function t q x) ∙ rw (column_same (λ (x : Function). fit name_size x.name) t.functions q x no_function refl)))

  -- ---- one connection

  module _ (b : Bytes) (c : ℕ) (h : c < length t.connections) where
    -- other flags, but as many connections
    as_many : (x : Connection) → laid (segments_of n t.last t.jobs t.jobs t.jobs t.functions t.functions (set t.connections c x) t.ids t.hub) ≡ bytes_of (set_connection t c x)
    as_many x =
        ap (λ (m : ℕ). laid (segments_of m t.last t.jobs t.jobs t.jobs t.functions t.functions (set t.connections c x) t.ids t.hub)) (sym (length-set t.connections c x))
        ∙ sym (bytes_laid (set_connection t c x))

    pub put_connection : (x : Connection)
        → put (exceptions_at n + c) (flag_byte x.exceptions) (put (asleep_at n + c) (flag_byte x.asleep) (put (opened_at n + c) (flag_byte x.opened) (put 0 (bytes_of t) b)))
        ≡ put 0 (bytes_of (set_connection t c x)) b
    put_connection x =
        let o1 = next1 (start b) (λ (x : Connection). flag_byte x.opened) (λ x. refl) 9 (opened_at n) t.connections c x refl (omega arith) (omega arith) h in
        let o2 = next1 o1 (λ (x : Connection). flag_byte x.asleep) (λ x. refl) 10 (asleep_at n) t.connections c x refl (omega arith) (omega arith) h in
        let o3 = next1 o2 (λ (x : Connection). flag_byte x.exceptions) (λ x. refl) 11 (exceptions_at n) t.connections c x refl (omega arith) (omega arith) h in
        o3.is ∙ ap (λ (s : Bytes). put 0 s b) (as_many x)

    -- a connection that keeps its other flags
    pub put_asleep : (a : Bool) → put (asleep_at n + c) (flag_byte a) (put 0 (bytes_of t) b) ≡ put 0 (bytes_of (set_connection t c (with_asleep a (connection_at t c)))) b
    put_asleep a =
        let x : Connection = with_asleep a (connection_at t c) in
        let o1 = next1 (start b) (λ (x : Connection). flag_byte x.asleep) (λ x. refl) 10 (asleep_at n) t.connections c x refl (omega arith) (omega arith) h in
        o1.is
        ∙ ap (λ (s : Bytes). put 0 s b)
        (sym (sym (as_many x)
        ∙ rw (
          column_same (λ (x : Connection). flag_byte x.opened) t.connections c x closed refl,
          column_same (λ (x : Connection). flag_byte x.exceptions) t.connections c x closed refl,
        )))

  -- ---- one client id

  pub put_id : (b : Bytes) (c : ℕ) → c < length t.ids → (i : Bytes) → put (ids_at n + id_size * c) (fit id_size i) (put 0 (bytes_of t) b) ≡ put 0 (bytes_of (set_id t c i)) b
  put_id b c h i = finish b _ (set_id t c i) (next (start b) (fit id_size) id_size (length_fit id_size) 12 (ids_at n) t.ids c i refl (omega arith) (omega arith) h)

  -- ---- the name of the hub

  pub put_hub : (b h : Bytes) → put hub_at (fit hub_size h) (put 0 (bytes_of t) b) ≡ put 0 (bytes_of (with_hub h t)) b
  put_hub b h =
      let o = next (start b) (fit hub_size) hub_size (length_fit hub_size) 6 hub_at (t.hub ∷ []) 0 h (sym (append-nil (fit hub_size t.hub))) (omega arith) refl (omega arith) in
      o.is ∙ ap (λ (s : Bytes). put 0 (laid (set (segments t) 6 s)) b) (append-nil (fit hub_size h)) ∙ ap (λ (s : Bytes). put 0 s b) (sym (bytes_laid (with_hub h t)))

-- ---- the last serial

pub put_last : (t : Table) (b : Bytes) (s : ℕ) → put 0 (little 4 s) (put 0 (bytes_of t) b) ≡ put 0 (bytes_of (with_last_serial s t)) b
unfolding bytes_of
put_last t b s = put_middle [] (little 4 s) (little 4 t.last) _ b 0 refl (length_little 4 s ∙ sym (length_little 4 t.last))
