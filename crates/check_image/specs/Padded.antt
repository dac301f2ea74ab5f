-- The padded rule byte by byte: a byte that is not the last of its place is not zero, or a zero follows. Assumes nothing.
use Rattle.std.specs.Prelude.{ℕ, ◌+◌, ◌-◌, ◌*◌, ◌%◌, Bool, not, cond, ◌||◌, map, get_or, eqb}
use Rattle.octets.specs.Bytes.{Bytes}
use Rattle.lists.specs.Lists.{numbers}
use Rattle.server.specs.Sizes.{unique_size}

abbrev pub zero_at : Bytes → ℕ → ℕ → Bool
zero_at b at k = eqb (get_or b (at + k) 0) 0

-- place k of places of w bytes begins with a zero
abbrev pub empty_at : Bytes → ℕ → ℕ → ℕ → Bool
empty_at b at w k = eqb (get_or b (at + w * k) 0) 0

-- what follows a byte that ends a text
abbrev pub after_end : ℕ → ℕ → ℕ
after_end x y = cond (eqb x 0) y 0

-- byte i is not zero, or the next one is
abbrev pub is_followed : Bytes → ℕ → Bool
is_followed b i = not (eqb (get_or b i 0) 0) || eqb (get_or b (i + 1) 0) 0

-- by a mask of last bytes, from a place on
abbrev pub last_or_followed : Bytes → Bytes → ℕ → ℕ → Bool
last_or_followed last b at k = not (eqb (get_or last k 0) 0) || is_followed b (at + k)

-- the mask of the last bytes of places of w bytes, in 64; shut, so that no goal writes it out
unfoldable pub last_of : ℕ → Bytes
last_of w = map (λ k. cond (eqb (k % w) (w - 1)) 1 0) (numbers 0 unique_size)
