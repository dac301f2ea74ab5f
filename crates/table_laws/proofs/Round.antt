-- A table whose fields fit their places comes back from its bytes, and from a buffer over which its bytes were laid; so two tables
-- that differ have different bytes. Assumes nothing.
use Prim.Native.Nat.{ℕ, ◌^◌, ◌<◌, ◌≤◌}
use mathlib.Core.Path.{◌≡◌, refl, sym, ◌∙◌}
use mathlib.Core.Bool.{Bool, true}
use mathlib.Core.List.{List, [], ◌++◌}
use native.Mathlib.Omega.{arith}
use lib.ListN.{length, drop}
use Rattle.octets.specs.Bytes.{Bytes, zero_free}
use Rattle.octets.specs.Put.{put}
use Rattle.octets.proofs.Laying.{put_start}
use Rattle.server.specs.declared.Connection.{Connection}
use Rattle.server.specs.declared.JobRow.{JobRow}
use Rattle.server.specs.Sizes.{function_count, job_count, id_size, hub_size}
use Rattle.server.specs.Table.{Function, Job, Table, closed, no_function, no_job, connection_at, id_at, function_at, job_at}
use Rattle.server.specs.Layout.{bytes_of, table_of, table_size, set_size, hub_at, connection_in, id_in, function_in, row_in, job_in}
use Rattle.table_laws.proofs.Fields.{little_lies, text_lies}
use Rattle.table_laws.proofs.Columns.{places_are, number_at, flag_at_lem, text_at_lem}
use Rattle.table_laws.proofs.RowColumns.{RowFits, rows_laid, row_back}
use Rattle.table_laws.proofs.Laid.{Laid, laid, length_bytes}

-- ---- what fits

-- a text of at most k bytes, none of them zero
pub record TextFits (k : ℕ) (s : Bytes) : Type 0 where
  pub within : length s ≤ k
  pub clean : zero_free s ≡ true

pub record FunctionFits (n : ℕ) (x : Function) : Type 0 where
  pub able : x.able < 256 ^ set_size n
  pub name : TextFits 32 x.name

pub record JobFits (n : ℕ) (j : Job) : Type 0 where
  pub row : RowFits n j.row
  pub unique : TextFits 64 j.unique
  pub numerator : TextFits 10 j.numerator
  pub denominator : TextFits 10 j.denominator

-- "known functions 16; unfinished jobs 32", a client id for each connection, and every field fits its place
pub record Fitting (t : Table) : Type 0 where
  pub sixteen : length t.functions ≡ function_count
  pub thirty_two : length t.jobs ≡ job_count
  pub one_each : length t.ids ≡ length t.connections
  pub last : t.last < 2 ^ 32
  pub hub : TextFits hub_size t.hub
  pub ids : (c : ℕ) → c < length t.connections → TextFits id_size (id_at t c)
  pub functions : (q : ℕ) → q < function_count → FunctionFits (length t.connections) (function_at t q)
  pub jobs : (p : ℕ) → p < job_count → JobFits (length t.connections) (job_at t p)

-- ---- a row from its fields

connection_is : (x : Connection) {o a e : Bool} → o ≡ x.opened → a ≡ x.asleep → e ≡ x.exceptions
    → ◌≡◌ {A = Connection} (record { opened = o; asleep = a; exceptions = e }) x
connection_is x p q r = rw (p, q, r)

function_is : (x : Function) {n : Bytes} {a : ℕ} → n ≡ x.name → a ≡ x.able → ◌≡◌ {A = Function} (record { name = n; able = a }) x
function_is x p q = rw (p, q)

job_is : (j : Job) {r : JobRow} {u n d : Bytes} → r ≡ j.row → u ≡ j.unique → n ≡ j.numerator → d ≡ j.denominator
    → ◌≡◌ {A = Job} (record { row = r; unique = u; numerator = n; denominator = d }) j
job_is j p q r s = rw (p, q, r, s)

table_is : (t : Table) {l : ℕ} {cs : List Connection} {is : List Bytes} {fs : List Function} {js : List Job} {h : Bytes} → l ≡ t.last → cs ≡ t.connections → is ≡ t.ids → fs ≡ t.functions → js ≡ t.jobs → h ≡ t.hub
    → ◌≡◌ {A = Table} (record { last = l; connections = cs; ids = is; functions = fs; jobs = js; hub = h }) t
table_is t p q i r s h = rw (p, q, i, r, s, h)

-- ---- the round trip

module _ (t : Table) (b : Bytes) (ok : Fitting t) (l : Laid t b) where
  connections_back : (c : ℕ) → c < length t.connections → connection_in (length t.connections) b c ≡ connection_at t c
  connections_back c h =
      connection_is (connection_at t c)
      (flag_at_lem b _ t.connections c closed h (λ x. x.opened) l.opened)
      (flag_at_lem b _ t.connections c closed h (λ x. x.asleep) l.asleep)
      (flag_at_lem b _ t.connections c closed h (λ x. x.exceptions) l.exceptions)

  ids_back : (c : ℕ) → c < length t.connections → id_in (length t.connections) b c ≡ id_at t c
  ids_back c h =
      let f = ok.ids c h in
      text_at_lem b _ t.ids c [] (rw ok.one_each h) id_size (λ x. x) l.id f.within f.clean

  functions_back : (q : ℕ) → q < function_count → function_in (length t.connections) b q ≡ function_at t q
  functions_back q h =
      let f = ok.functions q h in
      let i : q < length t.functions = rw ok.sixteen h in
      function_is (function_at t q)
      (text_at_lem b _ t.functions q no_function i 32 (λ x. x.name) l.name f.name.within f.name.clean)
      (number_at b _ t.functions q no_function i (set_size (length t.connections)) (λ x. x.able) l.able f.able)

  rows_back : (p : ℕ) → p < job_count → row_in (length t.connections) b p ≡ (job_at t p).row
  rows_back p h = row_back (length t.connections) b t.jobs p (rows_laid t.jobs b ok.thirty_two l.rows) l.listening (rw ok.thirty_two h) (ok.jobs p h).row

  jobs_back : (p : ℕ) → p < job_count → job_in (length t.connections) b p ≡ job_at t p
  jobs_back p h =
      let f = ok.jobs p h in
      let i : p < length t.jobs = rw ok.thirty_two h in
      job_is (job_at t p) (rows_back p h)
      (text_at_lem b _ t.jobs p no_job i 64 (λ j. j.unique) l.unique f.unique.within f.unique.clean)
      (text_at_lem b _ t.jobs p no_job i 10 (λ j. j.numerator) l.numerator f.numerator.within f.numerator.clean)
      (text_at_lem b _ t.jobs p no_job i 10 (λ j. j.denominator) l.denominator f.denominator.within f.denominator.clean)

  laid_back : table_of (length t.connections) b ≡ t
  unfolding table_of
  laid_back =
      table_is t (little_lies 4 t.last b 0 ok.last l.last)
      (places_are (connection_in (length t.connections) b) closed (length t.connections) t.connections refl connections_back)
      (places_are (id_in (length t.connections) b) [] (length t.connections) t.ids ok.one_each ids_back)
      (places_are (function_in (length t.connections) b) no_function function_count t.functions ok.sixteen functions_back)
      (places_are (job_in (length t.connections) b) no_job job_count t.jobs ok.thirty_two jobs_back)
      (text_lies hub_size t.hub b hub_at ok.hub.within ok.hub.clean l.hub)

-- "bytes of table beyond what the layout uses" have no say
pub table_back : (t : Table) (r : Bytes) → Fitting t → table_of (length t.connections) (bytes_of t ++ r) ≡ t
table_back t r ok = laid_back t (bytes_of t ++ r) ok (laid t (bytes_of t ++ r) ok.sixteen ok.thirty_two (record { before = []; after = r; whole = refl; place = refl }))

pub table_put : (n : ℕ) (t : Table) (b : Bytes) → Fitting t → length t.connections ≡ n → table_size n ≤ length b → table_of n (put 0 (bytes_of t) b) ≡ t
table_put n t b ok e h =
    let s : length (bytes_of t) ≤ length b = omega (arith, length_bytes t ok.sixteen ok.thirty_two ok.one_each) in
    rw (put_start (bytes_of t) b s, ← e) (table_back t (drop (length (bytes_of t)) b) ok)

-- each table has one byte image, and each image one table
pub bytes_apart : (t u : Table) → Fitting t → Fitting u → length t.connections ≡ length u.connections → bytes_of t ≡ bytes_of u → t ≡ u
bytes_apart t u ft fu e h =
    sym (table_back t [] ft) ∙ rw (h, e) (table_back u [] fu)
