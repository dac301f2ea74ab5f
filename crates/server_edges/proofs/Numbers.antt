-- Document 01's numbers that the definitions compute: the sizes that a host lends, and which refusals write an ERROR packet.
-- Assumes nothing.
use Prim.Native.Nat.{ℕ, ◌<◌}
use mathlib.Core.Path.{◌≡◌, refl, ap}
use mathlib.Core.Bool.{true, false, not}
use mathlib.Core.List.{[], ◌∷◌, map}
use lib.ListN.{get_or-eq_default}
use Rattle.octets.specs.Bytes.{Bytes, same}
use Rattle.lists.specs.Lists.{numbers}
use Rattle.server.specs.Sizes.{connection_count, workloads_size, output_size}
use Rattle.server.specs.Refusals.{refusal_texts, last_number, is_told}
use Rattle.server.specs.Layout.{table_size}

-- 01: "the table (at most 8,192 bytes ..), the workloads (at least 32,768 bytes ..) and the output (at least 16,592)"
pub lent_sizes : table_size connection_count ∷ workloads_size ∷ output_size connection_count ∷ [] ≡ 4836 ∷ 32768 ∷ 16592 ∷ []
lent_sizes = refl

-- 01: "1 to 8 write nothing [..]. 9 to 15 write one ERROR packet to the sender"; 0 is done
pub told_numbers : map is_told (numbers 0 16)
    ≡ false ∷ false ∷ false ∷ false ∷ false ∷ false ∷ false ∷ false ∷ false ∷ true ∷ true ∷ true ∷ true ∷ true ∷ true ∷ true ∷ []
unfolding is_told same
told_numbers = refl

-- and no number beyond the table
pub silent_beyond : (n : ℕ) → last_number < n → is_told n ≡ false
unfolding is_told same
silent_beyond n h = ap (λ (t : Bytes). not (same t [])) (get_or-eq_default refusal_texts [] {n = n} h)
