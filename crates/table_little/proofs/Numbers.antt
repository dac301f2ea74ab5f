-- Numbers of two bytes and of four, as the library reads and lays them, are the layout's. Assumes nothing.
use Prim.Native.Nat.{ℕ, suc, ◌+◌, ◌/◌}
use mathlib.Core.Path.{◌≡◌, refl}
use mathlib.Core.List.{[], ◌∷◌}
use native.Mathlib.Numerals.{add-one}
use native.Mathlib.Omega.{arith}
use lib.ListN.{get_or}
use Rattle.std.specs.Int.{from_le_bytes, to_le_bytes, w16, w32}
use Rattle.octets.specs.Bytes.{Bytes}
use Rattle.server.specs.Layout.{little, little_at}

-- ---- read

pub number_two : (b : Bytes) (at n : ℕ) → n ≡ from_le_bytes w16 (get_or b at 0 ∷ get_or b (at + 1) 0 ∷ []) → n ≡ little_at 2 b at
unfolding little_at
number_two b at n e = rw (e, add-one at) (omega arith)

pub number_four : (b : Bytes) (at n : ℕ) → n ≡ from_le_bytes w32 (get_or b at 0 ∷ get_or b (at + 1) 0 ∷ get_or b (at + 2) 0 ∷ get_or b (at + 3) 0 ∷ []) → n ≡ little_at 4 b at
unfolding little_at
number_four b at n e =
    let two : at + 2 ≡ suc (suc at) = omega arith in
    let three : at + 3 ≡ suc (suc (suc at)) = omega arith in
    rw (e, add-one at, two, three) (omega arith)

-- ---- laid

pub laid_two : (x : ℕ) → to_le_bytes w16 x ≡ little 2 x
unfolding little
laid_two x = refl

pub laid_four : (x : ℕ) → to_le_bytes w32 x ≡ little 4 x
unfolding little
laid_four x =
    let third : x / 65536 ≡ x / 256 / 256 = omega arith in
    let fourth : x / 16777216 ≡ x / 256 / 256 / 256 = omega arith in
    rw (third, fourth)
