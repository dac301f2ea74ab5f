-- A run of bytes laid over a lent buffer: what every writer of this repository promises. The buffer's other bytes, and its
-- length, stay as they were. Assumes nothing.
use Rattle.std.specs.Prelude.{zero, suc, [], ◌∷◌, ℕ}
use Rattle.octets.specs.Bytes.{Bytes}

-- s laid over the start of b: b's own bytes follow, and what of s is past b's end is lost
unfoldable pub over : Bytes → Bytes → Bytes
over [] b = b
over (x ∷ s) [] = []
over (x ∷ s) (y ∷ b) = x ∷ over s b

-- b with s from place `at` on
unfoldable pub put : ℕ → Bytes → Bytes → Bytes
put zero s b = over s b
put (suc at) s [] = []
put (suc at) s (y ∷ b) = y ∷ put at s b
