-- One packet in words: the connection, an arrow, the protocol's name of the type and the arguments; or why it cannot be read. And the
-- server's refusal. An opaque argument is its length alone. Assumes nothing.
use Rattle.std.specs.Prelude.{ℕ, Bool, true, false, cond, [], ◌∷◌, ◌++◌, length, get_or, eqb, ltb}
use Rattle.octets.specs.Bytes.{Bytes, number_at}
use Rattle.packet.specs.declared.Rule.{Rule}
use Rattle.packet.specs.declared.Rule.TheVariants.{Absent}
use Rattle.packet.specs.declared.Shape.{Shape}
use Rattle.packet.specs.declared.Side.{Side}
use Rattle.packet.specs.declared.Side.TheVariants.{Request, Response}
use Rattle.packet.specs.Layout.{rules_of}
use Rattle.packet.specs.Opaque.{is_opaque}
use Rattle.packet.specs.Packet.{Direction, direction_of, Reading, refused, got, read}
use Rattle.handle.specs.Handle.{decimal}
use Rattle.show_names.specs.Names.{label_of, name_of, reason_of, space}
use Rattle.prints.specs.Pieces.{pieces}
use Rattle.prints.specs.Printed.{printed_or}

-- ---- the fixed words

abbrev pub quotes : Bytes
quotes = 34 ∷ 34 ∷ []  -- ""

abbrev pub byte_word : Bytes
byte_word = 32 ∷ 98 ∷ 121 ∷ 116 ∷ 101 ∷ []  -- byte, after a space

abbrev pub bytes_word : Bytes
bytes_word = 32 ∷ 98 ∷ 121 ∷ 116 ∷ 101 ∷ 115 ∷ []  -- bytes, after a space

abbrev pub refused_word : Bytes
refused_word = 114 ∷ 101 ∷ 102 ∷ 117 ∷ 115 ∷ 101 ∷ 100 ∷ 32 ∷ []  -- refused, and a space

abbrev pub unreadable_word : Bytes
unreadable_word = 40 ∷ 117 ∷ 110 ∷ 114 ∷ 101 ∷ 97 ∷ 100 ∷ 97 ∷ 98 ∷ 108 ∷ 101 ∷ 58 ∷ 32 ∷ []  -- (unreadable: and a space

abbrev pub closing : Bytes
closing = 41 ∷ []  -- )

-- the arrows, each between spaces: `->` to the server, `<-` from it
abbrev pub to_server : Bytes
to_server = 32 ∷ 45 ∷ 62 ∷ 32 ∷ []

abbrev pub from_server : Bytes
from_server = 32 ∷ 60 ∷ 45 ∷ 32 ∷ []

abbrev pub arrow : Side → Bytes
arrow Request = to_server
arrow Response = from_server

-- ---- one argument

-- how many bytes an opaque argument has: `4 bytes`, `1 byte`
unfoldable pub sized : ℕ → Bytes
sized n = decimal n ++ cond (eqb n 1) byte_word bytes_word

-- an opaque argument by its length alone; any other as it is printed, an empty one as `""`
unfoldable pub value_of : Rule → Bytes → Bytes
value_of rule a = cond (is_opaque rule) (sized (length a)) (printed_or quotes a)

-- an argument's label and a space; an argument that is the only one of its type stands without
unfoldable pub label_before : Shape → ℕ → Bytes
label_before shape i = cond (eqb (length (rules_of shape)) 1) [] (label_of shape i ++ space)

-- argument i, after a space
unfoldable pub argument_text : Shape → ℕ → Bytes → Bytes
argument_text shape i a = space ++ (label_before shape i ++ value_of (get_or (rules_of shape) i Absent) a)

-- the first n arguments in order, each given by its place
unfoldable pub argument_texts : Shape → (ℕ → Bytes) → ℕ → Bytes
argument_texts shape f n = pieces (λ i. argument_text shape i (f i)) n

-- ---- one packet

-- a packet that was read: its type's name and all its arguments
unfoldable pub packet_text : ℕ → Shape → (ℕ → Bytes) → Bytes
packet_text kind shape f = name_of kind ++ argument_texts shape f (length (rules_of shape))

-- what the server answers: `refused 14 handle`
unfoldable pub refusal_text : ℕ → Bytes
refusal_text n = refused_word ++ (decimal n ++ (space ++ reason_of n))

-- why a packet cannot be read: `(unreadable: under 12 bytes)`. The server may have refused it on another ground.
unfoldable pub unreadable_text : ℕ → Bytes
unreadable_text n = unreadable_word ++ (reason_of n ++ closing)

-- a packet that cannot be read: from 9 on its header was good, and the name of its type is shown too
unfoldable pub refused_text : ℕ → ℕ → Bytes
refused_text kind n = cond (ltb n 9) (unreadable_text n) (name_of kind ++ (space ++ unreadable_text n))

-- what a reading says; the type in the header is `kind`
unfoldable pub read_text : (ℕ → Shape) → ℕ → Reading → Bytes
read_text shapes kind (refused n) = refused_text kind n
read_text shapes kind (got k as') = packet_text k (shapes k) (λ i. get_or as' i [])

unfoldable pub saying : Direction → Bytes → Bytes
saying w s = read_text w.shape (number_at s 4) (read w s)

-- ---- one line, without its line end

-- a line of requests, or of responses: the connection, the arrow, and what the packet says
abbrev pub side_line : Side → ℕ → Bytes → Bytes
side_line w c s = decimal c ++ (arrow w ++ saying (direction_of w) s)

-- `1 -> CAN_DO reverse`
unfoldable pub request_line : ℕ → Bytes → Bytes
request_line c s = side_line Request c s

-- `0 <- JOB_CREATED H:lap:1`
unfoldable pub response_line : ℕ → Bytes → Bytes
response_line c s = side_line Response c s
