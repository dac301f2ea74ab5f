-- Which job of a hub a packet concerns: the one whose handle stands in it, or else in the first packet that was sent. A text with another
-- hub's name is no handle. Assumes nothing.
use Rattle.std.specs.Prelude.{ℕ, Bool, true, false, cond, Option, Some, None, List, [], ◌∷◌, get_or, drop}
use Rattle.octets.specs.Bytes.{Bytes}
use Rattle.packet.specs.declared.Shape.{Shape}
use Rattle.packet.specs.declared.Shape.TheVariants.{Foreign, Empty, Function, Submission, WorkStatus, WorkData, Handle, Echo, OptionName, ClientId, Assignment, UniqueAssignment, Error, StatusAnswer}
use Rattle.packet.specs.Packet.{Direction, Reading, refused, got, read, requests, responses}
use Rattle.handle.specs.Handle.{serial_of}

-- the first argument is a handle
abbrev pub names_job : Shape → Bool
names_job Foreign = false
names_job Empty = false
names_job Function = false
names_job Submission = false
names_job WorkStatus = true
names_job WorkData = true
names_job Handle = true
names_job Echo = false
names_job OptionName = false
names_job ClientId = false
names_job Assignment = true
names_job UniqueAssignment = true
names_job Error = false
names_job StatusAnswer = true

-- the serial whose handle at the hub of this name stands in a packet of this shape, by its first argument
unfoldable pub handle_in : Bytes → Shape → Bytes → Option ℕ
handle_in hub shape a = cond (names_job shape) (serial_of hub a) None

-- a packet that is refused names no job
unfoldable pub named_by : Bytes → (ℕ → Shape) → Reading → Option ℕ
named_by hub shapes (refused n) = None
named_by hub shapes (got k as') = handle_in hub (shapes k) (get_or as' 0 [])

unfoldable pub job_named : Bytes → Direction → Bytes → Option ℕ
job_named hub w s = named_by hub w.shape (read w s)

-- the first packet sent, without its connection; none has no bytes
abbrev pub first_sent : List Bytes → Bytes
first_sent [] = []
first_sent (p ∷ ps) = drop 1 p

abbrev pub or_else : Option ℕ → Option ℕ → Option ℕ
or_else (Some n) s = Some n
or_else None s = s

-- at the hub of this name, from the packet that came and those that were sent
unfoldable pub concerned : Bytes → Bytes → List Bytes → Option ℕ
concerned hub b ps = or_else (job_named hub requests b) (job_named hub responses (first_sent ps))
