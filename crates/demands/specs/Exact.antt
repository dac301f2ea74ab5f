-- What each call of a history answers and leaves, to the byte. Demand 2. Assumes nothing.
use Rattle.std.specs.Prelude.{◌≡◌, List, [], ◌∷◌, ◌++◌, length, drop}
use Rattle.octets.specs.Bytes.{Bytes}
use Rattle.octets.specs.Put.{put}
use Rattle.lists.specs.Lists.{concat}
use Rattle.server.specs.Server.{Server, answer, next}
use Rattle.server.specs.Layout.{bytes_of}
use Rattle.server.specs.Call.{Result, sent_bytes}
use Rattle.server_calls.specs.History.{Call}
use Rattle.demands.specs.Messages.{told, messages_of}

-- the call x, where the memory holds server s and was t and w when the history began: number, length and output are the server's answer,
-- table and workloads are those of the next server, with all bytes beyond the layout as they were; and what a host reads in the output is
-- what the server says, by type and arguments
pub record Exactly (t w : Bytes) (s : Server) (x : Call) (r : Result) : Type 0 where
  pub number : r.number ≡ (answer x.event s).number
  pub length' : r.length' ≡ length (sent_bytes (answer x.event s).sent)
  pub output : r.output ≡ sent_bytes (answer x.event s).sent ++ drop r.length' x.output
  pub table : r.table ≡ put 0 (bytes_of (next x.event s).table) t
  pub workloads : r.workloads ≡ put 0 (concat (next x.event s).workloads) w
  pub packets : told r ≡ messages_of x.event s

-- so it is of each call, the server going on with each
pub data Walk (t w : Bytes) : Server → List Call → List Result → Type 0 where
  ends : {s : Server} → Walk t w s [] []
  goes : {s : Server} {x : Call} {r : Result} {xs : List Call} {rs : List Result} → Exactly t w s x r → Walk t w (next x.event s) xs rs → Walk t w s (x ∷ xs) (r ∷ rs)
