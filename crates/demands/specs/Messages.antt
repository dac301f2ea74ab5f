-- What a host reads in an output: the bytes cut into addressed packets by the sizes that they say, and each packet read by the packet
-- layer. And what the server's definitions say that it must read there. Assumes nothing.
use Rattle.std.specs.Prelude.{ℕ, zero, suc, ◌+◌, Bool, true, false, cond, List, [], ◌∷◌, ◌++◌, map, length, get_or, take, drop, replicate}
use Rattle.octets.specs.Bytes.{Bytes, number_at}
use Rattle.handle.specs.Handle.{handle}
use Rattle.packet.specs.Packet.{Reading, refused, got, read, requests, responses}
use Rattle.packet.specs.Opaque.{visible, opaque}
use Rattle.lists.specs.Lists.{fit}
use Rattle.server.specs.Table.{function_at, job_at}
use Rattle.server.specs.Requests.{Event, opens, closes, sends}
use Rattle.server.specs.Events.{Send, plain, copy, assign}
use Rattle.server.specs.Server.{Server, decided}
use Rattle.server.specs.Call.{Result}

-- ---- what a host reads

-- an addressed packet
pub record Addressed : Type 0 where
  pub to : ℕ
  pub bytes : Bytes

-- 01: "An addressed packet is one connection byte and then the packet"; a packet is 12 bytes and as many as its size says
unfoldable pub cut : ℕ → Bytes → List Addressed
cut zero b = []
cut (suc k) [] = []
cut (suc k) (c ∷ b) = record { to = c; bytes = take (12 + number_at b 8) b } ∷ cut k (drop (12 + number_at b 8) b)

-- no packet is empty, so there are at most as many as bytes
unfoldable pub packets_in : Bytes → List Addressed
packets_in b = cut (length b) b

-- a packet as the packet layer reads it, and to whom it goes
pub record Message : Type 0 where
  pub to : ℕ
  pub says : Reading

abbrev pub message_in : Addressed → Message
message_in p = record { to = p.to; says = read responses p.bytes }

-- of each byte of addressed packets: whether it lies in a packet's opaque part
abbrev pub hidden_in : List Addressed → List Bool
hidden_in [] = []
hidden_in (p ∷ ps) = replicate (suc (length (visible responses p.bytes))) false ++ (replicate (length (opaque responses p.bytes)) true ++ hidden_in ps)

-- the bytes that a call wrote: the output's first ones, as many as the reported length
abbrev pub written : Result → Bytes
written r = take r.length' r.output

-- the packets of a call
unfoldable pub told : Result → List Message
told r = map message_in (packets_in (written r))

-- ---- what the server says

-- the arguments of an event's own packet
abbrev pub arguments_in : Reading → List Bytes
arguments_in (refused n) = []
arguments_in (got kind as') = as'

unfoldable pub arguments_of : Event → List Bytes
arguments_of (opens c) = []
arguments_of (closes c) = []
arguments_of (sends c b) = arguments_in (read requests b)

-- 01: "12, 13, 14, 25, 28, 29 forwarded with the data as it came"; "11 JOB_ASSIGN (handle, function, workload), 31 JOB_ASSIGN_UNIQ
-- (handle, function, unique, workload)"
unfoldable pub message_of : Event → Server → Send → Message
message_of e s (plain to kind as') = record { to = to; says = got kind as' }
message_of e s (copy to kind) = record { to = to; says = got kind (arguments_of e) }
message_of e s (assign uniq to p) =
    let j = job_at s.table p in
    let w = fit j.row.size (get_or s.workloads p []) in
    record { to = to; says = got (cond uniq 31 11) (handle s.table.hub j.row.serial ∷ (function_at s.table j.row.function).name ∷ cond uniq (j.unique ∷ w ∷ []) (w ∷ [])) }

unfoldable pub messages_of : Event → Server → List Message
messages_of e s = map (message_of e s) (decided e s).packets
