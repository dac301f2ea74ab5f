-- The table's bytes: where each field lies, table bytes to table, and table to bytes. docs/TABLE.md is the same in words.
-- Numbers are little-endian. What grows with the number n of connections stands last. Assumes nothing.
use Rattle.std.specs.Prelude.{ℕ, zero, suc, ◌+◌, ◌*◌, ◌/◌, ◌%◌, Bool, cond, List, [], ◌∷◌, ◌++◌, map, length, get_or, take, drop, eqb}
use Rattle.octets.specs.Bytes.{Bytes, same, first_zero}
use Rattle.server.specs.declared.Connection.{Connection}
use Rattle.server.specs.declared.JobRow.{JobRow}
use Rattle.lists.specs.Lists.{fit, numbers}
use Rattle.server.specs.Sizes.{function_count, job_count, name_size, unique_size, number_size, id_size, hub_size}
use Rattle.server.specs.Table.{Function, Job, Table}

-- ---- one field

-- a number in k bytes, the lowest first, written and read
unfoldable pub little : ℕ → ℕ → Bytes
little zero n = []
little (suc k) n = n % 256 ∷ little k (n / 256)

unfoldable pub little_at : ℕ → Bytes → ℕ → ℕ
little_at zero b at = 0
little_at (suc k) b at = get_or b at 0 + 256 * little_at k b (suc at)

-- a flag is a byte 0 or 1
abbrev pub flag_byte : Bool → Bytes
flag_byte f = cond f 1 0 ∷ []

abbrev pub flag_at : Bytes → ℕ → Bool
flag_at b at = eqb (get_or b at 0) 1

-- a text in a place of k bytes, followed by zeros; it ends at its first zero byte
unfoldable pub text_at : ℕ → Bytes → ℕ → Bytes
text_at k b at = let p = take k (drop at b) in take (first_zero p) p

-- ---- where the fields lie, each behind the one before; what grows with the number of connections stands last

abbrev pub last_at : ℕ
last_at = 0

abbrev pub serials_at : ℕ
serials_at = last_at + 4

abbrev pub sizes_at : ℕ
sizes_at = serials_at + 4 * job_count

abbrev pub holders_at : ℕ
holders_at = sizes_at + 2 * job_count

abbrev pub priorities_at : ℕ
priorities_at = holders_at + 2 * job_count

abbrev pub backgrounds_at : ℕ
backgrounds_at = priorities_at + job_count

abbrev pub functions_at : ℕ
functions_at = backgrounds_at + job_count

abbrev pub names_at : ℕ
names_at = functions_at + job_count

abbrev pub uniques_at : ℕ
uniques_at = names_at + name_size * function_count

abbrev pub numerators_at : ℕ
numerators_at = uniques_at + unique_size * job_count

abbrev pub denominators_at : ℕ
denominators_at = numerators_at + number_size * job_count

-- a set of n connections, one bit each, in whole groups of four bytes: 4 up to 32 connections, 32 for 256
abbrev pub set_size : ℕ → ℕ
set_size n = 4 * ((n + 31) / 32)

abbrev pub hub_at : ℕ
hub_at = denominators_at + number_size * job_count

abbrev pub able_at : ℕ
able_at = hub_at + hub_size

abbrev pub listeners_at : ℕ → ℕ
listeners_at n = able_at + set_size n * function_count

-- the flags of n connections
abbrev pub opened_at : ℕ → ℕ
opened_at n = listeners_at n + set_size n * job_count

abbrev pub asleep_at : ℕ → ℕ
asleep_at n = opened_at n + n

abbrev pub exceptions_at : ℕ → ℕ
exceptions_at n = asleep_at n + n

-- the client ids of n connections
abbrev pub ids_at : ℕ → ℕ
ids_at n = exceptions_at n + n

-- how many bytes the layout uses
abbrev pub table_size : ℕ → ℕ
table_size n = ids_at n + id_size * n

-- ---- bytes to table

abbrev pub connection_in : ℕ → Bytes → ℕ → Connection
connection_in n b c = record { opened = flag_at b (opened_at n + c); asleep = flag_at b (asleep_at n + c); exceptions = flag_at b (exceptions_at n + c) }

abbrev pub id_in : ℕ → Bytes → ℕ → Bytes
id_in n b c = text_at id_size b (ids_at n + id_size * c)

abbrev pub function_in : ℕ → Bytes → ℕ → Function
function_in n b q = record { name = text_at name_size b (names_at + name_size * q); able = little_at (set_size n) b (able_at + set_size n * q) }

abbrev pub row_in : ℕ → Bytes → ℕ → JobRow
row_in n b p =
    record {
      serial = little_at 4 b (serials_at + 4 * p);
      function = get_or b (functions_at + p) 0;
      priority = get_or b (priorities_at + p) 0;
      background = flag_at b (backgrounds_at + p);
      listeners = little_at (set_size n) b (listeners_at n + set_size n * p);
      holder = little_at 2 b (holders_at + 2 * p);
      size = little_at 2 b (sizes_at + 2 * p);
    }

abbrev pub job_in : ℕ → Bytes → ℕ → Job
job_in n b p =
    record {
      row = row_in n b p;
      unique = text_at unique_size b (uniques_at + unique_size * p);
      numerator = text_at number_size b (numerators_at + number_size * p);
      denominator = text_at number_size b (denominators_at + number_size * p);
    }

-- the table that n connections' bytes hold
unfoldable pub table_of : ℕ → Bytes → Table
table_of n b =
    record {
      last = little_at 4 b last_at;
      connections = map (connection_in n b) (numbers 0 n);
      ids = map (id_in n b) (numbers 0 n);
      functions = map (function_in n b) (numbers 0 function_count);
      jobs = map (job_in n b) (numbers 0 job_count);
      hub = text_at hub_size b hub_at;
    }

-- ---- table to bytes

-- a column: one field of each row, row after row
abbrev pub column : {A : Type 0} → (A → Bytes) → List A → Bytes
column f [] = []
column f (x ∷ xs) = f x ++ column f xs

-- the numbers of the jobs' rows, but for the sets of listeners
unfoldable pub row_bytes : List Job → Bytes
row_bytes js =
    column (λ j. little 4 j.row.serial) js
    ++ (column (λ j. little 2 j.row.size) js
    ++ (column (λ j. little 2 j.row.holder) js
    ++ (column (λ j. little 1 j.row.priority) js
    ++ (column (λ j. flag_byte j.row.background) js
    ++ column (λ j. little 1 j.row.function) js))))

unfoldable pub bytes_of : Table → Bytes
bytes_of t =
    let n = length t.connections in
    little 4 t.last
    ++ (row_bytes t.jobs
    ++ (column (λ x. fit name_size x.name) t.functions
    ++ (column (λ j. fit unique_size j.unique) t.jobs
    ++ (column (λ j. fit number_size j.numerator) t.jobs
    ++ (column (λ j. fit number_size j.denominator) t.jobs
    ++ (fit hub_size t.hub
    ++ (column (λ x. little (set_size n) x.able) t.functions
    ++ (column (λ j. little (set_size n) j.row.listeners) t.jobs
    ++ (column (λ x. flag_byte x.opened) t.connections
    ++ (column (λ x. flag_byte x.asleep) t.connections
    ++ (column (λ x. flag_byte x.exceptions) t.connections
    ++ column (fit id_size) t.ids)))))))))))

-- "every field with a meaning in the layout": the bytes are those of the table that they hold, so each table has one byte image
unfoldable pub is_image : ℕ → Bytes → Bool
is_image n b = same (take (table_size n) b) (bytes_of (table_of n b))
