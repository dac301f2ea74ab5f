-- What the answer of reading a line stands for: the event of each kind of frame. Assumes nothing.
use Rattle.std.specs.Prelude.{ℕ, ◌-◌, ◌≤◌, take, drop, Option, Some, None}
use Rattle.octets.specs.Bytes.{Bytes}
use Rattle.server.specs.Requests.{Event, opens, closes, sends}
use Rattle.capture.specs.declared.Frame as F
use Rattle.capture.specs.declared.Frame.TheVariants as FV

-- the event, where the bytes of the frame stand at the start of b; none: the line isn't a frame
abbrev pub event_of : Option F.Frame → Bytes → Option Event
event_of (Some (FV.Open c)) b = Some (opens c)
event_of (Some (FV.Close c)) b = Some (closes c)
event_of (Some (FV.Packet c end)) b = Some (sends c (take (end - 2) (drop 2 b)))
event_of None b = None

-- the most bytes of a frame: two of the 2,080 digits make one
abbrev pub frame_size : ℕ
frame_size = 1040

-- a packet's end lies behind the kind and the connection, and inside the longest frame
abbrev pub Bounded : Option F.Frame → Type 0
Bounded (Some (FV.Open c)) = Unit
Bounded (Some (FV.Close c)) = Unit
Bounded (Some (FV.Packet c end)) = (2 ≤ end) × (end ≤ frame_size)
Bounded None = Unit
