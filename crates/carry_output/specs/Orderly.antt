-- What an order of packets asks before it is laid: of the table, of the packet that came, and of the handle asked for.
-- Assumes nothing.
use Rattle.std.specs.Prelude.{ℕ, ◌≤◌, ◌<◌, ◌≡◌, true}
use Rattle.octets.specs.Bytes.{Bytes}
use Rattle.packet.specs.declared.Ends.{Ends}
use Rattle.packet.specs.Layout as L
use Rattle.packet.specs.Arguments.{fits}
use Rattle.server.specs.Sizes.{job_count}
use Rattle.server.specs.Table.{Table, job_at, live}
use Rattle.plan.specs.declared.Order as O'
use Rattle.plan.specs.declared.Order.TheVariants as OV
use Rattle.carry_packet.specs.Messages.{Forwards}

-- an assignment and a status are of an unfinished job; a copy is of a packet that may go out by this type; a status names a handle
abbrev pub Orderly : O'.Order → Table → Bytes → Ends → ℕ → Bytes → Type 0
Orderly OV.Nothing t p ends kind h = 0 ≤ 0
Orderly (OV.Created serial) t p ends kind h = 0 ≤ 0
Orderly OV.NoJob t p ends kind h = 0 ≤ 0
Orderly (OV.Assign uniq q) t p ends kind h = (q < job_count) × (live (job_at t q).row ≡ true)
Orderly (OV.Copies to) t p ends kind h = Forwards p ends kind
Orderly (OV.Told to heard serial) t p ends kind h = Forwards p ends kind
Orderly OV.Echo t p ends kind h = Forwards p ends 17
Orderly (OV.Status q) t p ends kind h = (q < job_count) × (live (job_at t q).row ≡ true) × (fits L.handle h ≡ true)
Orderly OV.Unknown t p ends kind h = fits L.handle h ≡ true
Orderly OV.Optioned t p ends kind h = 0 ≤ 0
