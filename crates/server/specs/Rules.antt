-- The table rules of document 01, each a test that computes. A table that breaks one is refused by 1. Assumes nothing.
use Rattle.std.specs.Prelude.{ℕ, zero, suc, ◌+◌, ◌^◌, Bool, true, not, cond, ◌&&◌, ◌||◌, List, [], ◌∷◌, length, leb, ltb, eqb}
use Rattle.octets.specs.Bytes.{Bytes, same, zero_free, within}
use Rattle.packet.specs.Arguments.{digits}
use Rattle.handle.specs.Handle.{is_hub_name}
use Rattle.sets.specs.Sets.{has, is_empty}
use Rattle.server.specs.declared.Connection.{Connection}
use Rattle.server.specs.declared.JobRow.{JobRow}
use Rattle.lists.specs.Lists.{implies, any, all, pairwise, numbers}
use Rattle.server.specs.Sizes.{name_size, unique_size, number_size, id_size}
use Rattle.server.specs.Table.{Function, Job, Table, connection_at, id_at, function_at, rows_of, ables_of, live, queued, wanted, grabbable}

-- ---- serials: "serials distinct, from 1 and below the next, which is at most 4,294,967,296"

-- four bytes hold no greater last serial, so that this is true of every table that comes from bytes
abbrev pub next_small : Table → Bool
next_small t = ltb t.last 4294967296

abbrev pub serials_below : Table → Bool
serials_below t = all (λ j. leb j.row.serial t.last) t.jobs

abbrev pub serials_apart : Job → Job → Bool
serials_apart j k = not (live j.row) || not (eqb j.row.serial k.row.serial)

abbrev pub serials_distinct : Table → Bool
serials_distinct t = pairwise serials_apart t.jobs

-- ---- texts and sizes: "names and stored texts within sizes; a job's function, unique and workload at most 1,022 bytes together"

abbrev pub text_within : ℕ → Bytes → Bool
text_within most a = leb (length a) most && zero_free a

abbrev pub stored_number : Bytes → Bool
stored_number a = within 1 number_size (length a) && digits a

abbrev pub names_within : Table → Bool
names_within t = all (λ x. text_within name_size x.name) t.functions

abbrev pub texts_within : Table → Bool
texts_within t = all (λ j. implies (live j.row) (text_within unique_size j.unique && (stored_number j.numerator && stored_number j.denominator))) t.jobs

abbrev pub together : Table → Job → ℕ
together t j = length (function_at t j.row.function).name + length j.unique + j.row.size

abbrev pub sizes_within : Table → Bool
sizes_within t = all (λ j. leb (together t j) 1022) t.jobs

-- ---- "every field with a meaning in the layout"

-- the numbers of a free row, zero throughout
abbrev pub numbers_free : JobRow → Bool
numbers_free r =
    eqb r.function 0 && (eqb r.priority 0 && (not r.background && (is_empty r.listeners && (eqb r.holder 0 && eqb r.size 0))))

-- the numbers of a live row, with m functions and n connections: a priority, a function's place, and nobody or a connection as its holder
abbrev pub numbers_in_range : ℕ → ℕ → JobRow → Bool
numbers_in_range m n r = leb r.priority 2 && (ltb r.function m && leb r.holder n)

-- a free row is zero throughout and has empty texts; a live one has numbers with a meaning
abbrev pub row_is_free : Job → Bool
row_is_free j = numbers_free j.row && (same j.unique [] && (same j.numerator [] && same j.denominator []))

abbrev pub row_has_meaning : Table → Job → Bool
row_has_meaning t j = numbers_in_range (length t.functions) (length t.connections) j.row

abbrev pub rows_have_meaning : Table → Bool
rows_have_meaning t = all (λ j. cond (live j.row) (row_has_meaning t j) (row_is_free j)) t.jobs

-- ---- "known functions distinct and as defined"

abbrev pub is_known : Function → Bool
is_known x = not (same x.name [])

abbrev pub names_apart : Function → Function → Bool
names_apart x y = not (is_known x) || not (same x.name y.name)

abbrev pub functions_distinct : Table → Bool
functions_distinct t = pairwise names_apart t.functions

-- a place has a name exactly if some connection can do it or an unfinished job names it
abbrev pub as_defined : List JobRow → ℕ → List Function → Bool
as_defined rs q [] = true
as_defined rs q (x ∷ xs) = cond (is_known x) (wanted rs q x.able) (not (wanted rs q x.able)) && as_defined rs (suc q) xs

abbrev pub functions_as_defined : Table → Bool
functions_as_defined t = as_defined (rows_of t) 0 t.functions

-- ---- "abilities, listeners, holders, options and sleep only on open connections"

abbrev pub is_open : Table → ℕ → Bool
is_open t c = (connection_at t c).opened

-- each member of the set is a connection that is open
abbrev pub only_open : Table → ℕ → Bool
only_open t s = ltb s (2 ^ length t.connections) && all (λ c. implies (has s c) (is_open t c)) (numbers 0 (length t.connections))

abbrev pub abilities_open : Table → Bool
abilities_open t = all (λ x. only_open t x.able) t.functions

abbrev pub listeners_open : Table → Bool
listeners_open t = all (λ j. only_open t j.row.listeners) t.jobs

abbrev pub holder_open : Table → ℕ → Bool
holder_open t zero = true
holder_open t (suc c) = is_open t c

abbrev pub holders_open : Table → Bool
holders_open t = all (λ j. holder_open t j.row.holder) t.jobs

abbrev pub closed_clear : Table → Bool
closed_clear t = all (λ x. implies (x.asleep || x.exceptions) x.opened) t.connections

-- ---- "a queued job is background or has a listener"

abbrev pub queued_awaited : Table → Bool
queued_awaited t = all (λ j. implies (queued j.row) (j.row.background || not (is_empty j.row.listeners))) t.jobs

-- ---- "no two jobs share function and non-empty unique"

abbrev pub uniques_apart : Job → Job → Bool
uniques_apart j k = not (live j.row && (live k.row && (not (same j.unique []) && (eqb j.row.function k.row.function && same j.unique k.unique))))

abbrev pub uniques_distinct : Table → Bool
uniques_distinct t = pairwise uniques_apart t.jobs

-- ---- "no sleeper has a grabbable job"

abbrev pub sleeper_idle : Table → ℕ → Connection → Bool
sleeper_idle t c x = implies x.asleep (not (any (grabbable (ables_of t) c) (rows_of t)))

abbrev pub sleepers_idle_from : Table → ℕ → List Connection → Bool
sleepers_idle_from t c [] = true
sleepers_idle_from t c (x ∷ xs) = sleeper_idle t c x && sleepers_idle_from t (suc c) xs

abbrev pub sleepers_idle : Table → Bool
sleepers_idle t = sleepers_idle_from t 0 t.connections

-- ---- client ids, 02, ask 1: "1 to 64 bytes, no zero byte", "close clears the id"

abbrev pub ids_within : Table → Bool
ids_within t = all (text_within id_size) t.ids

-- only an open connection has one
abbrev pub id_open : Table → ℕ → Bool
id_open t c = is_open t c || same (id_at t c) []

abbrev pub ids_open : Table → Bool
ids_open t = all (id_open t) (numbers 0 (length t.connections))

-- ---- the hub's name, 02, ask 5: "1 to 15 bytes, lowercase letters and digits"

abbrev pub hub_named : Table → Bool
hub_named t = is_hub_name t.hub

-- ---- the rules together, in the order of document 01, those of 02 behind; with the bytes being an image of the layout they are `Call: is_sound`

unfoldable pub obeys : Table → Bool
obeys t =
    next_small t && (serials_below t && (serials_distinct t && (names_within t && (texts_within t && (sizes_within t && (rows_have_meaning t
    && (functions_distinct t && (functions_as_defined t && (abilities_open t && (listeners_open t && (holders_open t && (closed_clear t
    && (queued_awaited t && (uniques_distinct t && (sleepers_idle t && (ids_within t && (ids_open t && hub_named t)))))))))))))))))
