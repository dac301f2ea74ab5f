-- A text that a client chose, as it is printed for people, and the bytes that a text for people may have. Assumes nothing.
use Rattle.std.specs.Prelude.{ℕ, Bool, cond, ◌||◌, [], ◌∷◌, map, eqb}
use Rattle.octets.specs.Bytes.{Bytes, within}

-- 02: "In names and ids a byte outside 33 to 126 prints as `?`." So no byte printed is a space, ends a line or moves the cursor
abbrev pub printed_byte : ℕ → ℕ
printed_byte x = cond (within 33 126 x) x 63

unfoldable pub printed : Bytes → Bytes
printed s = map printed_byte s

-- 02: "client id or `-`": what stands for the empty text is given, `-` or, in what `show` prints, `""`
unfoldable pub printed_or : Bytes → Bytes → Bytes
printed_or none [] = none
printed_or none (x ∷ s) = printed (x ∷ s)

-- what a terminal shows or lays out: 32 to 126, a tab, a line feed
abbrev pub is_readable : ℕ → Bool
is_readable x = within 32 126 x || (eqb x 9 || eqb x 10)
