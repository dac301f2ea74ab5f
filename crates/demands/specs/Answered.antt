-- What a call may answer, whatever is handed over. Demand 1. Assumes nothing.
use Rattle.std.specs.Prelude.{ℕ, ◌/◌, ◌%◌, ◌+◌, ◌≤◌, ◌≡◌, List, [], ◌∷◌, ◌++◌, length, drop}
use Rattle.octets.specs.Bytes.{Bytes}
use Rattle.packet.specs.Arguments.{join}
use Rattle.packet.specs.Packet.{got, packet, responses}
use Rattle.server.specs.Refusals.{error_text}
use Rattle.server.specs.Requests.{Event, sends}
use Rattle.server.specs.Call.{Result, left}
use Rattle.demands.specs.Messages.{told}

-- 01: "the number as two decimal digits, a zero byte, the text"
abbrev pub error_arguments : ℕ → List Bytes
error_arguments n = ((n / 10 + 48) ∷ (n % 10 + 48) ∷ []) ∷ error_text n ∷ []

-- the ERROR packet to connection c
abbrev pub error_bytes : ℕ → ℕ → Bytes
error_bytes c n = c ∷ packet responses.magic 19 (join (error_arguments n))

-- done; or refused: "All refusals keep table and workloads. 1 to 8 write nothing and report length 0. 9 to 15 write one ERROR packet to
-- the sender [..]. Beyond the reported length the output is unchanged."
pub data Answered (e : Event) (t w o : Bytes) (r : Result) : Type 0 where
  done : r.number ≡ 0 → Answered e t w o r
  silent : 1 ≤ r.number → r.number ≤ 8 → r ≡ left r.number 0 o t w → Answered e t w o r
  tells : 9 ≤ r.number → r.number ≤ 15 → (c : ℕ) (b : Bytes) → e ≡ sends c b
      → r ≡ left r.number (length (error_bytes c r.number)) (error_bytes c r.number ++ drop (length (error_bytes c r.number)) o) t w
      → told r ≡ record { to = c; says = got 19 (error_arguments r.number) } ∷ []
      → Answered e t w o r
