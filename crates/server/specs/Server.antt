-- The server over histories of events: tables, workloads, and the packets as they are sent. Assumes nothing.
use Rattle.std.specs.Prelude.{ℕ, Bool, cond, List, [], ◌∷◌, ◌++◌, map, drop, get_or, replicate, eqb}
use Rattle.octets.specs.Bytes.{Bytes}
use Rattle.handle.specs.Handle.{handle}
use Rattle.packet.specs.Arguments.{join}
use Rattle.packet.specs.Packet.{packet, requests, responses}
use Rattle.packet.specs.Opaque.{visible, opaque}
use Rattle.server.specs.declared.JobRow.{JobRow}
use Rattle.lists.specs.Lists.{fit}
use Rattle.server.specs.Sizes.{job_count, workload_size}
use Rattle.server.specs.Table.{Job, Table, fresh, connection_at, function_at, job_at, live}
use Rattle.server.specs.Requests.{Event, opens, closes, sends, request_in}
use Rattle.server.specs.Events.{Send, plain, copy, assign, Decision, settle, opening, closing, served, is_connection, only_if_open, only_if_closed}

-- the table, and the workload of each place in 1,024 bytes
pub record Server : Type 0 where
  pub table : Table
  pub workloads : List Bytes

-- an addressed packet: its data is what is shown and then what is opaque
pub record Sent : Type 0 where
  pub to : ℕ
  pub kind : ℕ
  pub shown : Bytes
  pub opaque_part : Bytes

pub record Answer : Type 0 where
  pub number : ℕ
  pub sent : List Sent

-- ---- packets as they are sent

-- what this event's packet shows of its data, and its opaque part
unfoldable pub shown_by : Event → Bytes
shown_by (opens c) = []
shown_by (closes c) = []
shown_by (sends c b) = drop 12 (visible requests b)

unfoldable pub opaque_of : Event → Bytes
opaque_of (opens c) = []
opaque_of (closes c) = []
opaque_of (sends c b) = opaque requests b

-- 01: "11 JOB_ASSIGN (handle, function, workload), 31 JOB_ASSIGN_UNIQ (handle, function, unique, workload)"
abbrev pub assignment : Table → Bool → ℕ → List Bytes
assignment t uniq p =
    let j = job_at t p in
    handle t.hub j.row.serial ∷ (function_at t j.row.function).name ∷ cond uniq (j.unique ∷ [] ∷ []) ([] ∷ [])

-- from the table and the workloads before the event
unfoldable pub render : Event → Server → Send → Sent
render e s (plain to kind as') = record { to = to; kind = kind; shown = join as'; opaque_part = [] }
render e s (copy to kind) = record { to = to; kind = kind; shown = shown_by e; opaque_part = opaque_of e }
render e s (assign uniq to p) =
    record {
      to = to;
      kind = cond uniq 31 11;
      shown = join (assignment s.table uniq p);
      opaque_part = fit (job_at s.table p).row.size (get_or s.workloads p []);
    }

-- 01: "An addressed packet is one connection byte and then the packet."
abbrev pub addressed : Sent → Bytes
addressed p = p.to ∷ packet responses.magic p.kind (p.shown ++ p.opaque_part)

-- ---- workloads

-- 01: "An ended or dropped job's place is set to zero; a new workload is followed by zeros to the end of its place." A place keeps
-- its bytes while it keeps its job.
abbrev pub reworked : JobRow → JobRow → Bytes → Bytes → Bytes
reworked before after' o w = cond (eqb before.serial after'.serial) w (cond (live after') (fit workload_size o) (replicate workload_size 0))

abbrev pub rework : List Job → List Job → Bytes → List Bytes → List Bytes
rework [] ks o ws = ws
rework (j ∷ js) [] o ws = ws
rework (j ∷ js) (k ∷ ks) o [] = []
rework (j ∷ js) (k ∷ ks) o (w ∷ ws) = reworked j.row k.row o w ∷ rework js ks o ws

-- ---- one event, and histories

-- whether a connection is one, and is open, is asked first; what is decided may look at the whole server
unfoldable pub decided : Event → Server → Decision
decided (opens c) s =
    let t = s.table in
    only_if_closed (is_connection t c) (connection_at t c).opened t (settle [] (opening c t))
decided (closes c) s =
    let t = s.table in
    only_if_open (is_connection t c) (connection_at t c).opened t (settle [] (closing c t))
decided (sends c b) s =
    let t = s.table in
    only_if_open (is_connection t c) (connection_at t c).opened t (served c (request_in b) t)

unfoldable pub next : Event → Server → Server
next e s =
    let t = (decided e s).table in
    record { table = t; workloads = rework s.table.jobs t.jobs (opaque_of e) s.workloads }

unfoldable pub answer : Event → Server → Answer
answer e s = let d = decided e s in record { number = d.number; sent = map (render e s) d.packets }

-- a fresh table for n connections of the hub of this name; 01: "32 places of 1,024"
unfoldable pub start : ℕ → Bytes → Server
start n hub = record { table = fresh n hub; workloads = replicate job_count (replicate workload_size 0) }

unfoldable pub after : Server → List Event → Server
after s [] = s
after s (e ∷ es) = after (next e s) es

unfoldable pub answers : Server → List Event → List Answer
answers s [] = []
answers s (e ∷ es) = answer e s ∷ answers (next e s) es
