-- Addressed packets one after the other: their form, how bytes are cut into them, and a line for each. Assumes nothing.
use Rattle.std.specs.Prelude.{ℕ, zero, suc, ◌+◌, ◌≡◌, List, [], ◌∷◌, map, length, take, drop}
use Rattle.octets.specs.Bytes.{Bytes, number_at}
use Rattle.lists.specs.Lists.{concat}

-- a connection byte, 12 bytes of header, and as many bytes as the header's size says
abbrev pub packet_length : Bytes → ℕ
packet_length b = 13 + number_at b 9

abbrev pub Addressed : List Bytes → Type 0
Addressed [] = Unit
Addressed (p ∷ ps) = (length p ≡ packet_length p) × Addressed ps

-- the bytes are addressed packets, one after the other
pub record Packed (b : Bytes) : Type 0 where
  pub packets : List Bytes
  pub formed : Addressed packets
  pub whole : b ≡ concat packets

-- the bytes cut by the sizes that they say; at most n packets
unfoldable pub cut : ℕ → Bytes → List Bytes
cut zero b = []
cut (suc n) [] = []
cut (suc n) (x ∷ b) = take (packet_length (x ∷ b)) (x ∷ b) ∷ cut n (drop (packet_length (x ∷ b)) (x ∷ b))

-- no packet is empty
unfoldable pub packets_in : Bytes → List Bytes
packets_in b = cut (length b) b

-- what is said of each packet, one after the other
unfoldable pub packet_lines : (Bytes → Bytes) → List Bytes → Bytes
packet_lines line ps = concat (map line ps)
