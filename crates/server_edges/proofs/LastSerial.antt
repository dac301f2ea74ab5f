-- Document 01, "Edges to try": "Serial 4,294,967,295 done; next: 13." From a fresh table whose last serial but one is given out. And the
-- longest handle, with the longest assignment. Assumes nothing.
use mathlib.Core.Path.{◌≡◌, refl}
use Prim.Native.Nat.{◌+◌}
use mathlib.Core.List.{List, [], ◌∷◌, map}
use lib.ListN.{length, replicate}
use Rattle.octets.specs.Bytes.{Bytes, text}
use Rattle.packet.specs.Packet.{packet}
use Rattle.handle.specs.Handle.{lap}
use Rattle.server.specs.Sizes.{connection_count}
use Rattle.server.specs.Table.{fresh, with_last_serial}
use Rattle.server.specs.Requests.{Event, opens}
use Rattle.server.specs.Server.{Server, Answer, Sent, addressed, start}
use Rattle.server.proofs.Histories.{request, response, answered_from}

-- at the hub of a name, the last serial given out is 4,294,967,294
unfoldable pub nearly_used_up_at : Bytes → Server
unfolding start fresh
nearly_used_up_at hub =
    let t = (start connection_count hub).table in
    record {
      table = with_last_serial 4294967294 t;
      workloads = (start connection_count hub).workloads;
    }

pub nearly_used_up : Server
unfolding nearly_used_up_at
nearly_used_up = nearly_used_up_at lap

-- two submissions of a new job in the background
pub last_two : List Event
unfolding request
last_two =
    let submission = request 0 18 (text "f" ∷ [] ∷ [] ∷ []) in
    opens 0 ∷ submission ∷ submission ∷ []

pub last_numbers : map (λ (a : Answer). a.number) (answered_from nearly_used_up last_two) ≡ 0 ∷ 0 ∷ 13 ∷ []
unfolding answered_from nearly_used_up last_two
last_numbers = refl

-- JOB_CREATED, then ERROR
pub last_packets : map (λ (a : Answer). map addressed a.sent) (answered_from nearly_used_up last_two)
    ≡ []
    ∷ (response 0 8 (text "H:lap:4294967295" ∷ []) ∷ [])
    ∷ (response 0 19 (text "13" ∷ text "serials" ∷ []) ∷ [])
    ∷ []
unfolding answered_from nearly_used_up last_two response packet
last_packets = refl

-- ---- the longest assignment: 02, ask 5

-- a job of 1,022 bytes, the last serial, and a name of 15 bytes
pub longest_job : List Event
unfolding request
longest_job =
    opens 0
    ∷ request 0 1 (replicate 32 102 ∷ [])
    ∷ request 0 18 (replicate 32 102 ∷ replicate 64 117 ∷ replicate 926 119 ∷ [])
    ∷ request 0 30 []
    ∷ []

-- a connection byte, a header of 12 bytes, and 1,053 bytes of data, in the packet that each event sends
pub longest_assignment : map (λ (a : Answer). map (λ (p : Sent). length (addressed p)) a.sent) (answered_from (nearly_used_up_at (text "hubofthirdfloor")) longest_job)
    ≡ [] ∷ [] ∷ ((13 + 28) ∷ []) ∷ ((13 + 1053) ∷ []) ∷ []
unfolding answered_from nearly_used_up_at longest_job packet
longest_assignment = refl
