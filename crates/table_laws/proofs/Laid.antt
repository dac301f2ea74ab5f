-- Where each column of a table lies in its bytes, and how many bytes a table has. Assumes nothing.
use Prim.Native.Nat.{◌*◌}
use mathlib.Core.Path.{◌≡◌, refl}
use native.Mathlib.Omega.{arith}
use lib.ListN.{length, length-append}
use Rattle.octets.specs.Bytes.{Bytes}
use Rattle.lists.specs.Lists.{fit}
use Rattle.lists.proofs.Lists.{length_fit}
use Rattle.server.specs.Sizes.{function_count, job_count, name_size, unique_size, number_size, id_size, hub_size}
use Rattle.server.specs.Table.{Table}
use Rattle.server.specs.Layout.{little, flag_byte, column, row_bytes, bytes_of, table_size, set_size, last_at, able_at, serials_at, listeners_at, names_at, uniques_at, numerators_at, denominators_at, hub_at, opened_at, asleep_at, exceptions_at, ids_at}
use Rattle.table_laws.proofs.Fields.{Lies, lies_left, length_little}
use Rattle.table_laws.proofs.Columns.{numbers_long, flags_long, texts_long}
use Rattle.table_laws.proofs.RowColumns.{rows_size, rows_long, next_lies}

-- ---- the columns

abbrev pub ables : Table → Bytes
ables t = column (λ x. little (set_size (length t.connections)) x.able) t.functions

abbrev pub listeners : Table → Bytes
listeners t = column (λ j. little (set_size (length t.connections)) j.row.listeners) t.jobs

abbrev pub names : Table → Bytes
names t = column (λ x. fit name_size x.name) t.functions

abbrev pub uniques : Table → Bytes
uniques t = column (λ j. fit unique_size j.unique) t.jobs

abbrev pub numerators : Table → Bytes
numerators t = column (λ j. fit number_size j.numerator) t.jobs

abbrev pub denominators : Table → Bytes
denominators t = column (λ j. fit number_size j.denominator) t.jobs

abbrev pub openeds : Table → Bytes
openeds t = column (λ x. flag_byte x.opened) t.connections

abbrev pub asleeps : Table → Bytes
asleeps t = column (λ x. flag_byte x.asleep) t.connections

abbrev pub exceptionses : Table → Bytes
exceptionses t = column (λ x. flag_byte x.exceptions) t.connections

abbrev pub ids : Table → Bytes
ids t = column (λ x. fit id_size x) t.ids

-- ---- how long a table is

module _ (t : Table) (fs : length t.functions ≡ function_count) (js : length t.jobs ≡ job_count) (is : length t.ids ≡ length t.connections) where
  pub length_bytes : length (bytes_of t) ≡ table_size (length t.connections)
  unfolding bytes_of
  length_bytes =
      let n = length t.connections in
      simp (
        length-append,
        length_little 4 t.last,
        rows_long t.jobs js,
        texts_long name_size (λ x. x.name) t.functions function_count fs,
        texts_long unique_size (λ j. j.unique) t.jobs job_count js,
        texts_long number_size (λ j. j.numerator) t.jobs job_count js,
        texts_long number_size (λ j. j.denominator) t.jobs job_count js,
        length_fit hub_size t.hub,
        numbers_long (set_size n) (λ x. x.able) t.functions function_count fs,
        numbers_long (set_size n) (λ j. j.row.listeners) t.jobs job_count js,
        flags_long (λ x. x.opened) t.connections n refl,
        flags_long (λ x. x.asleep) t.connections n refl,
        flags_long (λ x. x.exceptions) t.connections n refl,
        texts_long id_size (λ x. x) t.ids n is,
      )
      (omega arith)

-- ---- where they lie

pub record Laid (t : Table) (b : Bytes) : Type 0 where
  pub last : Lies b last_at (little 4 t.last)
  pub rows : Lies b serials_at (row_bytes t.jobs)
  pub name : Lies b names_at (names t)
  pub unique : Lies b uniques_at (uniques t)
  pub numerator : Lies b numerators_at (numerators t)
  pub denominator : Lies b denominators_at (denominators t)
  pub hub : Lies b hub_at (fit hub_size t.hub)
  pub able : Lies b able_at (ables t)
  pub listening : Lies b (listeners_at (length t.connections)) (listeners t)
  pub opened : Lies b (opened_at (length t.connections)) (openeds t)
  pub asleep : Lies b (asleep_at (length t.connections)) (asleeps t)
  pub exceptions : Lies b (exceptions_at (length t.connections)) (exceptionses t)
  pub id : Lies b (ids_at (length t.connections)) (ids t)

pub laid : (t : Table) (b : Bytes) → length t.functions ≡ function_count → length t.jobs ≡ job_count → Lies b 0 (bytes_of t) → Laid t b
unfolding bytes_of
laid t b fs js l0 =
    let n = length t.connections in
    let l1 = next_lies (little 4 t.last) 4 serials_at l0 (length_little 4 t.last) refl in
    let l2 = next_lies (row_bytes t.jobs) rows_size names_at l1 (rows_long t.jobs js) refl in
    let l3 = next_lies (names t) (name_size * function_count) uniques_at l2 (texts_long name_size (λ x. x.name) t.functions function_count fs) refl in
    let l4 = next_lies (uniques t) (unique_size * job_count) numerators_at l3 (texts_long unique_size (λ j. j.unique) t.jobs job_count js) refl in
    let l5 = next_lies (numerators t) (number_size * job_count) denominators_at l4 (texts_long number_size (λ j. j.numerator) t.jobs job_count js) refl in
    let l6 = next_lies (denominators t) (number_size * job_count) hub_at l5 (texts_long number_size (λ j. j.denominator) t.jobs job_count js) refl in
    let l7 = next_lies (fit hub_size t.hub) hub_size able_at l6 (length_fit hub_size t.hub) refl in
    let l8 = next_lies (ables t) (set_size n * function_count) (listeners_at n) l7 (numbers_long (set_size n) (λ x. x.able) t.functions function_count fs) refl in
    let l9 = next_lies (listeners t) (set_size n * job_count) (opened_at n) l8 (numbers_long (set_size n) (λ j. j.row.listeners) t.jobs job_count js) refl in
    let l10 = next_lies (openeds t) n (asleep_at n) l9 (flags_long (λ x. x.opened) t.connections n refl) refl in
    let l11 = next_lies (asleeps t) n (exceptions_at n) l10 (flags_long (λ x. x.asleep) t.connections n refl) refl in
    let l12 = next_lies (exceptionses t) n (ids_at n) l11 (flags_long (λ x. x.exceptions) t.connections n refl) refl in
    record {
      last = lies_left b _ _ _ l0;
      rows = lies_left b _ _ _ l1;
      name = lies_left b _ _ _ l2;
      unique = lies_left b _ _ _ l3;
      numerator = lies_left b _ _ _ l4;
      denominator = lies_left b _ _ _ l5;
      hub = lies_left b _ _ _ l6;
      able = lies_left b _ _ _ l7;
      listening = lies_left b _ _ _ l8;
      opened = lies_left b _ _ _ l9;
      asleep = lies_left b _ _ _ l10;
      exceptions = lies_left b _ _ _ l11;
      id = l12;
    }
