-- What the readers and the writers answer, in document 01's numbers and values. 01: "When an answer is an enum, a definition
-- gives this paper's number and values for each of its cases." Assumes nothing.
use Rattle.std.specs.Prelude.{ℕ, zero, suc, ◌+◌, ◌-◌, cond, ◌&&◌, List, [], ◌∷◌, length, get_or, take, drop, ltb, leb, Result, Ok, Err}
use Rattle.octets.specs.Bytes.{Bytes, number_at}
use Rattle.octets.specs.Put.{put}
use Rattle.packet.specs.Arguments.{ends_of, join}
use Rattle.packet.specs.declared.Ends.{Ends}
use Rattle.packet.specs.Layout.{rules_of}
use Rattle.packet.specs.Packet.{Direction, Reading, refused, got, header, packet, write_refusal}
use Rattle.packet.specs.Refusals.{number_of, refusal_of}
use Rattle.packet.specs.declared.Packet as P
use Rattle.packet.specs.declared.Refusal.{Refusal}
use Rattle.packet.specs.declared.Shape.{Shape}

-- what a reader answers: a refusal, or the packet's type and where its arguments end
abbrev pub Read : Type 0
Read = Result P.Packet Refusal

-- the packet of this type, whose arguments end there, was read
abbrev pub found : ℕ → Ends → Read
found kind ends = Ok (record { kind = kind; ends = ends })

-- the answer that stands for a reading: the refusal of its number, or its type and where its arguments end
unfoldable pub answer_of : Reading → Read
answer_of (refused n) = Err (refusal_of n)
answer_of (got kind as') = found kind (ends_of 12 as')

-- document 01's number of an answer: 0 means done
abbrev pub read_number : Read → ℕ
read_number (Err e) = number_of e
read_number (Ok p) = 0

-- a number, unless there is a refusal
abbrev pub granted : ℕ → ℕ → Result ℕ Refusal
granted zero x = Ok x
granted (suc n) x = Err (refusal_of (suc n))

-- the answer to a header: refusals 5 to 8, or its type
unfoldable pub header_of : Bytes → ℕ → Bytes → Result ℕ Refusal
header_of magic most s = granted (header magic most s) (number_at s 4)

-- the bytes after place `before` and up to place `end`, if they lie in the packet
unfoldable pub between : Bytes → ℕ → ℕ → Bytes
between s before end = cond (ltb before end && leb end (length s)) (take (end - (before + 1)) (drop (before + 1) s)) []

-- argument i of a packet: it starts after the separator that ends the one before it, and the first one after the header
abbrev pub places : Ends → List ℕ
places ends = 11 ∷ ends.first ∷ ends.second ∷ ends.third ∷ ends.fourth ∷ ends.fifth ∷ []

unfoldable pub argument_at : Bytes → Ends → ℕ → Bytes
argument_at s ends i = between s (get_or (places ends) i 0) (get_or (places ends) (i + 1) 0)

-- as many arguments as are asked for, from argument i on
abbrev pub arguments_from : Bytes → Ends → ℕ → ℕ → List Bytes
arguments_from s ends i zero = []
arguments_from s ends i (suc n) = argument_at s ends i ∷ arguments_from s ends (suc i) n

-- document 01's number and values of an answer: the number of a refusal, or the packet's type and its arguments, as many as the
-- type has
unfoldable pub values_of : Direction → Bytes → Read → Reading
values_of w s (Err e) = refused (number_of e)
values_of w s (Ok p) = got p.kind (arguments_from s p.ends 0 (length (rules_of (w.shape p.kind))))

-- ---- writing

-- what a writer answers: a refusal, or the packet's length
abbrev pub Written : Type 0
Written = Result ℕ Refusal

-- document 01's number of an answer, and the length that it reports: 0 with a refusal
abbrev pub write_number : Written → ℕ
write_number (Err e) = number_of e
write_number (Ok n) = 0

abbrev pub write_length : Written → ℕ
write_length (Err e) = 0
write_length (Ok n) = n

-- what a writer answers, and what it leaves in the output
pub record Writing : Type 0 where
  pub answer : Written
  pub output : Bytes

abbrev pub finished : ℕ → Bytes → Bytes → Writing
finished zero p out = record { answer = Ok (length p); output = put 0 p out }
finished (suc n) p out = record { answer = Err (refusal_of (suc n)); output = out }

-- 01: "This layer's refusals write nothing." Otherwise the packet's bytes from the start, and everything beyond as it was.
unfoldable pub writing : Bytes → ℕ → Shape → Bytes → ℕ → List Bytes → Writing
writing magic most shape out kind as' = finished (write_refusal most (length out) shape as') (packet magic kind (join as')) out
