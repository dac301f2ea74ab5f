-- The places of the functions' names: as they lie, and searched. Assumes nothing.
use Rattle.std.specs.Prelude.{ℕ, ◌+◌, ◌*◌, Bool, List, [], map, get_or, take, drop, replicate, eqb, Option}
use Rattle.octets.specs.Bytes.{Bytes}
use Rattle.lists.specs.Lists.{all, find, numbers}
use Rattle.server.specs.Sizes.{function_count, name_size}
use Rattle.server.specs.Layout.{names_at}

-- n zero bytes; shut, so that no goal writes them out
unfoldable pub zeros : ℕ → Bytes
zeros n = replicate n 0

-- the place of the name of function q, as it lies in the table
abbrev pub name_in : Bytes → ℕ → Bytes
name_in b q = take name_size (drop (names_at + name_size * q) b)

unfoldable pub names_in : Bytes → List Bytes
names_in b = map (name_in b) (numbers 0 function_count)

-- the first n bytes agree; shut, so that no goal writes them out
unfoldable pub agree : ℕ → Bytes → Bytes → Bool
agree n s t = all (λ k. eqb (get_or s k 0) (get_or t k 0)) (numbers 0 n)

-- the lowest of the places where the name stands
abbrev pub place_of : List Bytes → Bytes → Option ℕ
place_of names name = find (λ q. agree name_size (get_or names q []) name) (numbers 0 function_count)
