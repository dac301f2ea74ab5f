-- Lowercase hexadecimal, two digits a byte: the bytes that digits spell, and the digits of bytes. 01, "Replay program".
-- Assumes nothing.
use Rattle.std.specs.Prelude.{ℕ, ◌+◌, ◌-◌, ◌*◌, ◌/◌, ◌%◌, cond, ◌&&◌, [], ◌∷◌, ◌++◌, leb, Option, Some, None}
use Rattle.octets.specs.Bytes.{Bytes, within}

-- what a digit stands for; 16 is no digit
abbrev pub digit_value : ℕ → ℕ
digit_value x = cond (within 48 57 x) (x - 48) (cond (within 97 102 x) (x - 87) 16)

abbrev pub cons_byte : ℕ → Option Bytes → Option Bytes
cons_byte x None = None
cons_byte x (Some b) = Some (x ∷ b)

abbrev pub pair_of : ℕ → ℕ → Option Bytes → Option Bytes
pair_of h l rest = cond (leb h 15 && leb l 15) (cons_byte (h * 16 + l) rest) None

-- the bytes that a line's digits spell, two digits a byte
unfoldable pub unhex : Bytes → Option Bytes
unhex [] = Some []
unhex (x ∷ []) = None
unhex (x ∷ (y ∷ ds)) = pair_of (digit_value x) (digit_value y) (unhex ds)

abbrev pub hex_digit : ℕ → ℕ
hex_digit n = cond (leb n 9) (n + 48) (n + 87)

abbrev pub hex_byte : ℕ → Bytes
hex_byte x = hex_digit (x / 16) ∷ hex_digit (x % 16) ∷ []

unfoldable pub hex : Bytes → Bytes
hex [] = []
hex (x ∷ b) = hex_byte x ++ hex b
