-- The rules of client ids, and the tests that show them. Assumes nothing.
use Rattle.std.specs.Prelude.{ℕ, ◌+◌, ◌*◌, Bool, ◌&&◌, ◌||◌, [], ◌∷◌, get_or, eqb}
use Rattle.octets.specs.Bytes.{Bytes}
use Rattle.server.specs.Sizes.{connection_count, id_size}
use Rattle.server.specs.Layout.{table_of, opened_at, ids_at}
use Rattle.server.specs.Rules.{ids_open}
use Rattle.table_laws.specs.Tests.{is_padded, are_padded}

-- zeros follow each id, and only an open connection has one
unfoldable pub id_rules : Bytes → Bool
id_rules b = are_padded id_size connection_count b (ids_at connection_count) && ids_open (table_of connection_count b)

-- connection c is open, or its place begins with a zero
abbrev pub open_or_none : Bytes → ℕ → Bool
open_or_none b c = eqb (get_or b (opened_at connection_count + c) 0) 1 || eqb (get_or b (ids_at connection_count + id_size * c) 0) 0

abbrev pub id_holds : Bytes → ℕ → Bool
id_holds b c = is_padded id_size b (ids_at connection_count + id_size * c) && open_or_none b c

-- the mask of last bytes of 64 from the byte before a place on
abbrev pub last_before : Bytes
last_before = 1 ∷ 0 ∷ 0 ∷ 0 ∷ 0 ∷ 0 ∷ 0 ∷ 0 ∷ 0 ∷ 0 ∷ 0 ∷ 0 ∷ 0 ∷ 0 ∷ 0 ∷ 0 ∷ 0 ∷ 0 ∷ 0 ∷ 0 ∷ 0 ∷ 0 ∷ 0 ∷ 0 ∷ 0 ∷ 0 ∷ 0 ∷ 0 ∷ 0 ∷ 0 ∷ 0 ∷ 0 ∷ 0 ∷ 0 ∷ 0 ∷ 0 ∷ 0 ∷ 0 ∷ 0 ∷ 0 ∷ 0 ∷ 0 ∷ 0 ∷ 0 ∷ 0 ∷ 0 ∷ 0 ∷ 0 ∷ 0 ∷ 0 ∷ 0 ∷ 0 ∷ 0 ∷ 0 ∷ 0 ∷ 0 ∷ 0 ∷ 0 ∷ 0 ∷ 0 ∷ 0 ∷ 0 ∷ 0 ∷ 0 ∷ []
