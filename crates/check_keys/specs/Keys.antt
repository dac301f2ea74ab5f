-- A key for each place of a text, so that equal texts have equal keys. Assumes nothing.
use Rattle.std.specs.Prelude.{ℕ, ◌+◌, ◌*◌, ◌/◌, ◌%◌, cond, get_or}
use Rattle.std.specs.Int.Bits.{bit_xor}
use Rattle.octets.specs.Bytes.{Bytes}
use Rattle.server.specs.Sizes.{name_size, unique_size}
use Rattle.server.specs.Layout.{little_at, functions_at, names_at, uniques_at}
use Rattle.check_image.specs.Padded.{empty_at}

-- ---- keys

-- eight bytes as a number
unfoldable pub word_at : Bytes → ℕ → ℕ
word_at b at = little_at 4 b at + 4294967296 * little_at 4 b (at + 4)

-- the four words of 32 bytes, in one number
unfoldable pub words_at : Bytes → ℕ → ℕ
words_at b at = bit_xor (bit_xor (word_at b at) (word_at b (at + 8))) (bit_xor (word_at b (at + 16)) (word_at b (at + 24)))

-- the halves of a word, in one number of four bytes
unfoldable pub folded : ℕ → ℕ
folded x = (x % 4294967296 + 5 * (x / 4294967296)) % 4294967296

-- a unique and, in the four highest bits, its job's function
unfoldable pub folded_unique : Bytes → ℕ → ℕ
folded_unique b k = bit_xor (folded (bit_xor (words_at b (uniques_at + unique_size * k)) (words_at b (uniques_at + 32 + unique_size * k)))) (get_or b (functions_at + k) 0 % 16 * 268435456)

-- a key of each place, from what its bytes fold to: an empty place has its own number, which no other empty place has
abbrev pub place_key : Bytes → ℕ → ℕ → (ℕ → ℕ) → ℕ → ℕ
place_key b at w fold k = cond (empty_at b at w k) k (fold k)

unfoldable pub name_key : Bytes → ℕ → ℕ
name_key b = place_key b names_at name_size (λ k. folded (words_at b (names_at + name_size * k)))

unfoldable pub unique_key : Bytes → ℕ → ℕ
unique_key b = place_key b uniques_at unique_size (folded_unique b)
