-- Known functions in rising byte order of name. 02, ask 1. Assumes nothing.
use Rattle.std.specs.Prelude.{ℕ, Bool, true, false, cond, ◌&&◌, ◌||◌, List, [], ◌∷◌, length, get_or, ltb, eqb}
use Rattle.octets.specs.Bytes.{Bytes}
use Rattle.lists.specs.Lists.{filter, numbers}
use Rattle.server.specs.Table.{Function, no_function}
use Rattle.server.specs.Rules.{is_known}

-- 02: "rising byte order": byte by byte; a name comes before every longer one that begins with it
unfoldable pub before : Bytes → Bytes → Bool
before xs [] = false
before [] (y ∷ ys) = true
before (x ∷ xs) (y ∷ ys) = ltb x y || (eqb x y && before xs ys)

abbrev pub name_at : List Function → ℕ → Bytes
name_at fs q = (get_or fs q no_function).name

-- a place put among others, before the first whose name comes after its own
unfoldable pub placed : List Function → ℕ → List ℕ → List ℕ
placed fs q [] = q ∷ []
placed fs q (p ∷ ps) = cond (before (name_at fs q) (name_at fs p)) (q ∷ p ∷ ps) (p ∷ placed fs q ps)

-- places in rising order of their names
unfoldable pub rising : List Function → List ℕ → List ℕ
rising fs [] = []
rising fs (q ∷ qs) = placed fs q (rising fs qs)

-- the places of the known functions, in rising order of name
abbrev pub is_named : List Function → ℕ → Bool
is_named fs q = is_known (get_or fs q no_function)

unfoldable pub in_order : List Function → List ℕ
in_order fs = rising fs (filter (is_named fs) (numbers 0 (length fs)))
