-- Byte strings, as lists of numbers: of a text, equal, starting with another, their first zero byte, and numbers in four bytes.
-- Assumes nothing.
use Rattle.std.specs.Prelude.{ℕ, suc, ◌+◌, ◌*◌, ◌/◌, ◌%◌, Bool, true, false, cond, ◌&&◌, List, [], ◌∷◌, length, get_or, eqb, leb}
use Prim.Native.Char.{code}
use Prim.Native.String.{String, [] as none', ◌∷◌ as ◌then◌}

abbrev pub Bytes : Type 0
Bytes = List ℕ

-- the bytes of a text
abbrev pub text : String → Bytes
text none' = []
text (c then s) = code c ∷ text s

-- the two strings are equal
unfoldable pub same : Bytes → Bytes → Bool
same [] [] = true
same [] (y ∷ ys) = false
same (x ∷ xs) [] = false
same (x ∷ xs) (y ∷ ys) = eqb x y && same xs ys

-- the string begins with the prefix
unfoldable pub starts_with : Bytes → Bytes → Bool
starts_with s [] = true
starts_with [] (y ∷ ys) = false
starts_with (x ∷ xs) (y ∷ ys) = eqb x y && starts_with xs ys

-- where the first zero byte stands; the length, if there is none
unfoldable pub first_zero : Bytes → ℕ
first_zero [] = 0
first_zero (x ∷ xs) = cond (eqb x 0) 0 (suc (first_zero xs))

-- no byte is zero: the first zero byte is past the end
abbrev pub zero_free : Bytes → Bool
zero_free s = eqb (first_zero s) (length s)

-- lo to hi, both included
abbrev pub within : ℕ → ℕ → ℕ → Bool
within lo hi n = leb lo n && leb n hi

-- each byte passes the test
unfoldable pub every : (ℕ → Bool) → Bytes → Bool
every f [] = true
every f (x ∷ xs) = f x && every f xs

-- 000: "A big-endian (network-order) integer" of four bytes, written and read
abbrev pub big_endian : ℕ → Bytes
big_endian x = x / 16777216 ∷ x / 65536 % 256 ∷ x / 256 % 256 ∷ x % 256 ∷ []

abbrev pub number_at : Bytes → ℕ → ℕ
number_at s at = ((get_or s at 0 * 256 + get_or s (at + 1) 0) * 256 + get_or s (at + 2) 0) * 256 + get_or s (at + 3) 0
