-- Decimal numbers, the names of hubs and the handles of jobs. 01: "Its handle is `H:lap:` and the serial in decimal." 02, ask 5: "Handles must
-- name the hub." Assumes nothing.
use Rattle.std.specs.Prelude.{ℕ, zero, suc, ◌+◌, ◌-◌, ◌*◌, ◌/◌, ◌%◌, Bool, cond, ◌&&◌, ◌||◌, Option, Some, None, [], ◌∷◌, ◌++◌, length, take, drop, replicate, ltb}
use Rattle.octets.specs.Bytes.{Bytes, same, every, within, text}
use Rattle.handle.specs.declared.Handle as H

-- n in decimal with no leading zero, in at most k digits
unfoldable pub decimal_in : ℕ → ℕ → Bytes
decimal_in zero n = []
decimal_in (suc k) n = cond (ltb n 10) ((n + 48) ∷ []) (decimal_in k (n / 10) ++ ((n % 10 + 48) ∷ []))

-- a serial, at most 4,294,967,295, has at most ten digits
unfoldable pub decimal : ℕ → Bytes
decimal n = decimal_in 10 n

-- ---- names of hubs

-- 02: "a name of 1 to 15 bytes, lowercase letters and digits"
abbrev pub hub_most : ℕ
hub_most = 15

abbrev pub is_hub_byte : ℕ → Bool
is_hub_byte x = within 97 122 x || within 48 57 x

unfoldable pub is_hub_name : Bytes → Bool
is_hub_name name = within 1 hub_most (length name) && every is_hub_byte name

-- the name that document 01 gives; 02: "The replay program and document 01's cases keep `lap`"
abbrev pub lap : Bytes
lap = text "lap"

-- ---- handles

-- the handle of a job: `H:`, the name of the hub, `:` and the serial. 02: the name stands "in every handle instead of `lap`"
unfoldable pub handle : Bytes → ℕ → Bytes
handle name serial = 72 ∷ 58 ∷ (name ++ (58 ∷ decimal serial))

-- what stands before its digits
abbrev pub prefix : Bytes → Bytes
prefix name = 72 ∷ 58 ∷ (name ++ (58 ∷ []))

-- the most bytes of a handle: three beside the name, and ten digits
abbrev pub handle_most : ℕ
handle_most = 13 + hub_most

-- the number that digits make, after the number a
unfoldable pub value : ℕ → Bytes → ℕ
value a [] = a
value a (d ∷ ds) = value (a * 10 + (d - 48)) ds

-- the number of a text of digits; none, where a byte is no digit
abbrev pub number_of : Bytes → Option ℕ
number_of s = cond (every (within 48 57) s) (Some (value 0 s)) None

-- the serial of which a text is the handle. A handle matches as exact text: no leading zero, no sign, nothing after it.
unfoldable pub serial_of : Bytes → Bytes → Option ℕ
serial_of name s =
    let n = value 0 (drop (3 + length name) s) in
    cond (within 1 4294967295 n && same (handle name n) s) (Some n) None

-- a text in exactly n bytes, followed by zeros
abbrev pub padded : ℕ → Bytes → Bytes
padded n s = take n (s ++ replicate n 0)

-- what the code answers for a handle: its bytes, and how many they are
unfoldable pub printed : Bytes → H.Handle
printed text = record { text = padded handle_most text; length = length text }
