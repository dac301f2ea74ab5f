-- Histories of calls: each call is lent the table and the workloads as the last call left them, and an output of its own.
-- Assumes nothing.
use Rattle.std.specs.Prelude.{ℕ, ◌≤◌, ◌≡◌, List, [], ◌∷◌, ◌++◌, map, length, drop}
use Rattle.octets.specs.Bytes.{Bytes}
use Rattle.octets.specs.Put.{put}
use Rattle.server.specs.Requests.{Event}
use Rattle.server.specs.Server.{Answer}
use Rattle.server.specs.Call.{Result, sent_bytes, call}

-- an event, and the output lent for it
pub record Call : Type 0 where
  pub event : Event
  pub output : Bytes

-- the kept buffers
pub record Memory : Type 0 where
  pub table : Bytes
  pub workloads : Bytes

abbrev pub events : List Call → List Event
events xs = map (λ x. x.event) xs

unfoldable pub calls : ℕ → List Call → Bytes → Bytes → List Result
calls n [] t w = []
calls n (x ∷ xs) t w = let r = call n x.event t w x.output in r ∷ calls n xs r.table r.workloads

unfoldable pub leaves : ℕ → List Call → Bytes → Bytes → Memory
leaves n [] t w = record { table = t; workloads = w }
leaves n (x ∷ xs) t w = let r = call n x.event t w x.output in leaves n xs r.table r.workloads

-- the call says what the server answers: its number, and its packets at the start of the output
pub record Says (x : Call) (a : Answer) (r : Result) : Type 0 where
  pub number : r.number ≡ a.number
  pub length' : r.length' ≡ length (sent_bytes a.sent)
  pub output : r.output ≡ put 0 (sent_bytes a.sent) x.output

-- the output begins with the packets, whole, and is unchanged beyond them
pub record Writes (x : Call) (a : Answer) (r : Result) : Type 0 where
  pub fits : r.length' ≤ length x.output
  pub output : r.output ≡ sent_bytes a.sent ++ drop r.length' x.output

-- so it is of each call of a history, its request and the server's answer
pub data Each (R : Call → Answer → Result → Type 0) : List Call → List Answer → List Result → Type 0 where
  none : Each R [] [] []
  more : {x : Call} {a : Answer} {r : Result} {xs : List Call} {bs : List Answer} {rs : List Result} → R x a r → Each R xs bs rs → Each R (x ∷ xs) (a ∷ bs) (r ∷ rs)
