-- A packet's bytes, read and written, for requests and for responses. 000, "Binary Packet"; 01, "Packet layout".
-- Assumes nothing.
use Rattle.std.specs.Prelude.{ℕ, zero, suc, ◌+◌, not, cond, List, [], ◌∷◌, ◌++◌, length, take, drop, replicate, ltb, eqb}
use Rattle.octets.specs.Bytes.{Bytes, starts_with, big_endian, number_at}
use Rattle.packet.specs.declared.Shape.{Shape}
use Rattle.packet.specs.declared.Side.{Side}
use Rattle.packet.specs.declared.Side.TheVariants.{Request, Response}
use Rattle.packet.specs.Layout.{request_shape, response_shape, is_own, rules_of}
use Rattle.packet.specs.Arguments.{Parts, bad, parts, split, fit_all, join}

-- one way of the line: its magic, the most data that a packet of it has, and the shape of each of its types. 01: "For a response, 6, 7
-- and 9 mean its own magic, its own limit and the sent types."
pub record Direction : Type 0 where
  pub magic : Bytes
  pub most : ℕ
  pub shape : ℕ → Shape

-- 01: "00 52 45 51 for a request", "request data 0 to 1,024"
abbrev pub requests : Direction
requests = record { magic = 0x00 ∷ 0x52 ∷ 0x45 ∷ 0x51 ∷ []; most = 1024; shape = request_shape }

-- 01: "00 52 45 53 for a response", "response data 0 to 1,088"
abbrev pub responses : Direction
responses = record { magic = 0x00 ∷ 0x52 ∷ 0x45 ∷ 0x53 ∷ []; most = 1088; shape = response_shape }

-- the direction of a side
abbrev pub direction_of : Side → Direction
direction_of Request = requests
direction_of Response = responses

-- ---- reading

-- what reading finds: a refusal's number, or the type and its arguments
pub data Reading : Type 0 where
  refused : ℕ → Reading
  got : ℕ → List Bytes → Reading

-- 01, refusals 5 to 8, "Checked in number order"; 0 where none is given
unfoldable pub header : Bytes → ℕ → Bytes → ℕ
header magic most s =
    cond (ltb (length s) 12) 5
    (cond (not (starts_with s magic)) 6
    (cond (ltb most (number_at s 8)) 7
    (cond (eqb (length s) (12 + number_at s 8)) 0 8)))

-- 01: "10: data doesn't split as the type asks, or breaks a size above"
abbrev pub argued : ℕ → Parts → Reading
argued kind bad = refused 10
argued kind (parts as') = got kind as'

-- 01: "9: type not served", or for a response no sent type
unfoldable pub body : Shape → ℕ → Bytes → Reading
body shape kind d = cond (is_own shape) (argued kind (split (rules_of shape) d)) (refused 9)

abbrev pub after_header : ℕ → Reading → Reading
after_header zero r = r
after_header (suc n) r = refused (suc n)

-- what a packet of this direction says
unfoldable pub read : Direction → Bytes → Reading
read w s = after_header (header w.magic w.most s) (body (w.shape (number_at s 4)) (number_at s 4) (drop 12 s))

-- ---- writing

-- 01: "Four bytes of magic [..]; four bytes of type; four bytes of size, both numbers big-endian; then size bytes of data."
unfoldable pub packet : Bytes → ℕ → Bytes → Bytes
packet magic kind d = magic ++ (big_endian kind ++ (big_endian (length d) ++ d))

-- the first `count` of five arguments. Above five there are only empty ones: no type has so many, so that such a count is refused when
-- it is written
unfoldable pub given : ℕ → Bytes → Bytes → Bytes → Bytes → Bytes → List Bytes
given count a b c d e = take count (a ∷ b ∷ c ∷ d ∷ e ∷ replicate count [])

-- 01: "Writing refuses, in this order, a foreign type by 9, bad arguments by 10, too much data by 7 and an output shorter than the
-- packet by 1"; 0 where none is given
unfoldable pub write_refusal : ℕ → ℕ → Shape → List Bytes → ℕ
write_refusal most room shape as' =
    cond (not (is_own shape)) 9
    (cond (not (fit_all (rules_of shape) as')) 10
    (cond (ltb most (length (join as'))) 7
    (cond (ltb room (12 + length (join as'))) 1 0)))
