-- Computed examples of handles, and of texts that are no handle. Assumes nothing.
use mathlib.Core.Path.{◌≡◌, refl}
use mathlib.Core.Bool.{true, false, ◌&&◌, ◌||◌}
use mathlib.Core.List.{[], ◌∷◌, ◌++◌}
use Rattle.octets.specs.Bytes.{Bytes, every, same, text}
use Rattle.handle.specs.Handle.{decimal_in, decimal, handle, is_hub_name, lap, value, serial_of}
use Rattle.std.specs.Prelude.{Some, None}

-- `H:lap:` and then some bytes
abbrev lap_text : Bytes → Bytes
lap_text s = (72 ∷ 58 ∷ 108 ∷ 97 ∷ 112 ∷ 58 ∷ []) ++ s

-- `4294967295`
abbrev last : Bytes
last = 52 ∷ 50 ∷ 57 ∷ 52 ∷ 57 ∷ 54 ∷ 55 ∷ 50 ∷ 57 ∷ 53 ∷ []

-- `H:lap:1`
pub handle_one : handle lap 1 ≡ lap_text (49 ∷ [])
unfolding handle decimal decimal_in
handle_one = refl

-- `H:lap:4294967295`, the last one
pub handle_last : handle lap 4294967295 ≡ lap_text last
unfolding handle decimal decimal_in
handle_last = refl

pub serial_one : serial_of lap (lap_text (49 ∷ [])) ≡ Some 1
unfolding serial_of value handle decimal decimal_in same
serial_one = refl

pub serial_last : serial_of lap (lap_text last) ≡ Some 4294967295
unfolding serial_of value handle decimal decimal_in same
serial_last = refl

-- `H:lap:01`: a leading zero
pub serial_leading_zero : serial_of lap (lap_text (48 ∷ 49 ∷ [])) ≡ None
unfolding serial_of value handle decimal decimal_in same
serial_leading_zero = refl

-- `H:lap:`: no digit
pub serial_empty : serial_of lap (lap_text []) ≡ None
unfolding serial_of value handle decimal decimal_in same
serial_empty = refl

-- `H:lap:0`: serials begin at 1
pub serial_zero : serial_of lap (lap_text (48 ∷ [])) ≡ None
unfolding serial_of value handle decimal decimal_in same
serial_zero = refl

-- `H:lap:4294967296`: one past the last
pub serial_past : serial_of lap (lap_text (52 ∷ 50 ∷ 57 ∷ 52 ∷ 57 ∷ 54 ∷ 55 ∷ 50 ∷ 57 ∷ 54 ∷ [])) ≡ None
unfolding serial_of value handle decimal decimal_in same
serial_past = refl

-- `H:lap:1 `: something after it
pub serial_more : serial_of lap (lap_text (49 ∷ 32 ∷ [])) ≡ None
unfolding serial_of value handle decimal decimal_in same
serial_more = refl

-- ---- other hubs: `H:lap1:1` is no handle at `lap`, nor `H:lap:11` at `lap1`, nor either at `lap11`

pub serial_longer_name : serial_of lap (text "H:lap1:1") ≡ None
unfolding serial_of value handle decimal decimal_in same
serial_longer_name = refl

pub serial_shorter_name : serial_of (text "lap11") (text "H:lap1:11") ≡ None
unfolding serial_of value handle decimal decimal_in same
serial_shorter_name = refl

pub serial_own_name : serial_of (text "lap11") (text "H:lap11:1") ≡ Some 1
unfolding serial_of value handle decimal decimal_in same
serial_own_name = refl

-- names: 1 and 15 bytes, digits alone; none, 16 bytes, an uppercase letter, a hyphen
pub names_good : is_hub_name lap && (is_hub_name (text "a") && (is_hub_name (text "abcdefghijklmno") && is_hub_name (text "0123456789"))) ≡ true
unfolding is_hub_name every
names_good = refl

pub names_bad : is_hub_name [] || (is_hub_name (text "abcdefghijklmnop") || (is_hub_name (text "Lap") || (is_hub_name (text "la-p") || is_hub_name (97 ∷ 0 ∷ [])))) ≡ false
unfolding is_hub_name every
names_bad = refl
