-- Document 01: "Checked in number order". Packets that break two rules at once, each with the number that it draws, and one theorem that the
-- definitions give these numbers. The edits in must-fail/ exchange two checks. Assumes nothing.
use Prim.Native.Nat.{ℕ}
use mathlib.Core.Path.{◌≡◌, refl}
use mathlib.Core.List.{[], ◌∷◌, map}
use Rattle.octets.specs.Bytes.{Bytes, starts_with, first_zero}
use Rattle.packet.specs.Layout.{request_shape, rules_of}
use Rattle.packet.specs.Arguments.{fits, split}
use Rattle.packet.specs.Packet.{Reading, refused, got, header, body, read, requests}

-- eleven bytes of a response
abbrev pub short_response : Bytes
short_response = 0x00 ∷ 0x52 ∷ 0x45 ∷ 0x53 ∷ 0x00 ∷ 0x00 ∷ 0x00 ∷ 0x09 ∷ 0x00 ∷ 0x00 ∷ 0x00 ∷ []

-- a response's header whose size is 1,025
abbrev pub long_response : Bytes
long_response = 0x00 ∷ 0x52 ∷ 0x45 ∷ 0x53 ∷ 0x00 ∷ 0x00 ∷ 0x00 ∷ 0x09 ∷ 0x00 ∷ 0x00 ∷ 0x04 ∷ 0x01 ∷ []

-- a request's header whose size is 1,025, without the data
abbrev pub long_alone : Bytes
long_alone = 0x00 ∷ 0x52 ∷ 0x45 ∷ 0x51 ∷ 0x00 ∷ 0x00 ∷ 0x00 ∷ 0x05 ∷ 0x00 ∷ 0x00 ∷ 0x04 ∷ 0x01 ∷ []

-- a header of type 5, whose size is 1, without the data
abbrev pub foreign_alone : Bytes
foreign_alone = 0x00 ∷ 0x52 ∷ 0x45 ∷ 0x51 ∷ 0x00 ∷ 0x00 ∷ 0x00 ∷ 0x05 ∷ 0x00 ∷ 0x00 ∷ 0x00 ∷ 0x01 ∷ []

-- type 5 with one byte of data: a number that is not served has no arguments, so that the data does not split either
abbrev pub foreign_with_data : Bytes
foreign_with_data = 0x00 ∷ 0x52 ∷ 0x45 ∷ 0x51 ∷ 0x00 ∷ 0x00 ∷ 0x00 ∷ 0x05 ∷ 0x00 ∷ 0x00 ∷ 0x00 ∷ 0x01 ∷ 0x61 ∷ []

abbrev number_of : Reading → ℕ
number_of (refused n) = n
number_of (got kind as') = 0

pub in_order : map (λ b. number_of (read requests b)) (short_response ∷ long_response ∷ long_alone ∷ foreign_alone ∷ foreign_with_data ∷ []) ≡ 5 ∷ 6 ∷ 7 ∷ 8 ∷ 9 ∷ []
unfolding read header body starts_with request_shape rules_of split fits first_zero
in_order = refl
