-- What reading hexadecimal digits into a lent buffer answers, and what it leaves there. Assumes nothing.
use Rattle.std.specs.Prelude.{ℕ, ◌+◌, ◌*◌, Bool, cond, Option, Some, None, [], ◌∷◌, length, leb}
use Rattle.octets.specs.Bytes.{Bytes}
use Rattle.octets.specs.Put.{put}
use Rattle.hexadecimal.specs.Hex.{digit_value, unhex}

-- how many bytes the digits spell; none, where they spell none that the buffer holds
pub record Spelling : Type 0 where
  pub answer : Option ℕ
  pub output : Bytes

-- a refusal writes nothing
abbrev pub unspelled : Bytes → Spelling
unspelled out = record { answer = None; output = out }

-- the bytes over the start of the buffer; none, where they are more than it holds
abbrev pub laid : Option Bytes → Bytes → Spelling
laid None out = unspelled out
laid (Some b) out = cond (leb (length b) (length out)) (record { answer = Some (length b); output = put 0 b out }) (unspelled out)

unfoldable pub spelling : Bytes → Bytes → Spelling
spelling digits out = laid (unhex digits) out

-- ---- what the inner functions answer

-- a lowercase hexadecimal digit
abbrev pub is_digit : ℕ → Bool
is_digit x = leb (digit_value x) 15

-- what a digit stands for, where the byte is one
abbrev pub digit_of : ℕ → Option ℕ
digit_of x = cond (is_digit x) (Some (digit_value x)) None

-- each two digits as a byte; an odd last one is left out
unfoldable pub pairs : Bytes → Bytes
pairs [] = []
pairs (x ∷ []) = []
pairs (x ∷ (y ∷ ds)) = (digit_value x * 16 + digit_value y) ∷ pairs ds
