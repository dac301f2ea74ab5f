-- One place laid over the bytes of a table: a row, a free place, a connection's flags, a function's place; and places one after the other.
-- Assumes nothing.
use Rattle.std.specs.Prelude.{ℕ, zero, suc, ◌+◌, ◌*◌, Bool, cond, [], ◌∷◌}
use Rattle.octets.specs.Bytes.{Bytes}
use Rattle.octets.specs.Put.{put}
use Rattle.server.specs.declared.Connection.{Connection}
use Rattle.server.specs.declared.JobRow.{JobRow}
use Rattle.lists.specs.Lists.{fit}
use Rattle.server.specs.Sizes.{connection_count, name_size, unique_size, number_size}
use Rattle.server.specs.Table.{no_row, live}
use Rattle.server.specs.Layout.{little, flag_byte, able_at, serials_at, listeners_at, sizes_at, holders_at, names_at, uniques_at, numerators_at, denominators_at, opened_at, asleep_at, exceptions_at}
use Rattle.table_laws.specs.Rows.{row_laid}

-- ---- a job

abbrev pub laid_fours : ℕ → ℕ → ℕ → Bytes → Bytes
laid_fours p serial listeners b = put (serials_at + 4 * p) (little 4 serial) (put (listeners_at connection_count + 4 * p) (little 4 listeners) b)

abbrev pub laid_twos : ℕ → ℕ → ℕ → Bytes → Bytes
laid_twos p size holder b = put (holders_at + 2 * p) (little 2 holder) (put (sizes_at + 2 * p) (little 2 size) b)

-- the numbers of a row: its listeners, then the others
unfoldable pub laid_row : ℕ → JobRow → Bytes → Bytes
laid_row p r b = row_laid p r (put (listeners_at connection_count + 4 * p) (little 4 r.listeners) b)

-- the two stored texts
abbrev pub laid_numbers : ℕ → Bytes → Bytes → Bytes → Bytes
laid_numbers p n d b = put (denominators_at + number_size * p) (fit number_size d) (put (numerators_at + number_size * p) (fit number_size n) b)

-- a free place: its numbers and its three texts at zero
unfoldable pub laid_free : ℕ → Bytes → Bytes
laid_free p b = laid_numbers p [] [] (put (uniques_at + unique_size * p) (fit unique_size []) (laid_row p no_row b))

-- a row, or a free place
unfoldable pub laid_job : JobRow → ℕ → Bytes → Bytes
laid_job r p b = cond (live r) (laid_row p r b) (laid_free p b)

-- `0` and `0`, if it is so
unfoldable pub laid_zeros : Bool → ℕ → Bytes → Bytes
laid_zeros m p b = cond m (laid_numbers p (48 ∷ []) (48 ∷ []) b) b

-- ---- a function

-- its place at zero
unfoldable pub laid_forgotten : ℕ → Bytes → Bytes
laid_forgotten q b = put (names_at + name_size * q) (fit name_size []) (put (able_at + 4 * q) (little 4 0) b)

-- its set, if it is wanted
unfoldable pub laid_function : Bool → ℕ → ℕ → Bytes → Bytes
laid_function wanted s q b = cond wanted (put (able_at + 4 * q) (little 4 s) b) (laid_forgotten q b)

-- ---- a connection

unfoldable pub laid_flags : ℕ → Connection → Bytes → Bytes
laid_flags c x b = put (exceptions_at connection_count + c) (flag_byte x.exceptions) (put (asleep_at connection_count + c) (flag_byte x.asleep) (put (opened_at connection_count + c) (flag_byte x.opened) b))

-- ---- places one after the other: n of them from place k on

unfoldable pub laid_each : (ℕ → Bytes → Bytes) → ℕ → ℕ → Bytes → Bytes
laid_each lay k zero b = b
laid_each lay k (suc n) b = laid_each lay (suc k) n (lay k b)
