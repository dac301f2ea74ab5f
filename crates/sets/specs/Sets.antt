-- A set of connections as one number: connection c belongs to it exactly if bit c is 1. The empty set is 0. Nothing here depends on
-- how many connections there are. Assumes nothing.
use Rattle.std.specs.Prelude.{ℕ, zero, suc, ◌+◌, ◌-◌, ◌/◌, ◌%◌, ◌^◌, Bool, cond, List, [], ◌∷◌, ◌++◌, eqb}
use Rattle.std.specs.Int.Bits.{bit_or}

unfoldable pub has : ℕ → ℕ → Bool
has s c = eqb (s / 2 ^ c % 2) 1

unfoldable pub insert : ℕ → ℕ → ℕ
insert s c = cond (has s c) s (s + 2 ^ c)

unfoldable pub remove : ℕ → ℕ → ℕ
remove s c = cond (has s c) (s - 2 ^ c) s

-- the connections of the one set and of the other
unfoldable pub union : ℕ → ℕ → ℕ
union s t = bit_or s t

abbrev pub is_empty : ℕ → Bool
is_empty s = eqb s 0

-- the members below n, in rising order
unfoldable pub members : ℕ → ℕ → List ℕ
members zero s = []
members (suc n) s = members n s ++ cond (has s n) (n ∷ []) []
