-- The parts of the answer to `workers` that functions of the code lay; functions are listed by their places, in rising order of name.
-- Assumes nothing.
use Rattle.std.specs.Prelude.{ℕ, Bool, cond, List, [], ◌∷◌, ◌++◌, map, length}
use Rattle.octets.specs.Bytes.{Bytes, text}
use Rattle.handle.specs.Handle.{decimal}
use Rattle.prints.specs.Printed.{printed, printed_or}
use Rattle.sets.specs.Sets.{has}
use Rattle.lists.specs.Lists.{concat, filter, numbers}
use Rattle.server.specs.Table.{Table, function_at, id_at}
use Rattle.server.specs.Rules.{is_open}
use Rattle.command.specs.Texts.{line_feed}

-- connection c is able to do the function at place q
abbrev pub is_able : Table → ℕ → ℕ → Bool
is_able t c q = has (function_at t q).able c

-- a name after a space
abbrev pub spaced_name : Table → ℕ → Bytes
spaced_name t q = 32 ∷ printed (function_at t q).name

-- of one function, and of those that are listed
abbrev pub name_text : Table → ℕ → ℕ → Bytes
name_text t c q = cond (is_able t c q) (spaced_name t q) []

unfoldable pub names_text : Table → List ℕ → ℕ → Bytes
names_text t l c = concat (map (spaced_name t) (filter (is_able t c) l))

-- up to the colon: number, address, client id
unfoldable pub head_text : Table → ℕ → Bytes
head_text t c = decimal c ++ (text " - " ++ (printed_or (text "-") (id_at t c) ++ text " :"))

unfoldable pub line_text : Table → List ℕ → ℕ → Bytes
line_text t l c = head_text t c ++ (names_text t l c ++ line_feed)

-- of a connection, if it is open, and of all that are
abbrev pub open_text : Table → List ℕ → ℕ → Bytes
open_text t l c = cond (is_open t c) (line_text t l c) []

unfoldable pub lines_text : Table → List ℕ → Bytes
lines_text t l = concat (map (line_text t l) (filter (is_open t) (numbers 0 (length t.connections))))
