-- Which packets name a job, by what a host reads in them, and what it is that a handle's job stands, is made, or is gone. Assumes nothing.
use Rattle.std.specs.Prelude.{ℕ, ◌≡◌, Bool, true, false, not, ◌||◌, ◌&&◌, List, [], ◌∷◌, eqb}
use Rattle.octets.specs.Bytes.{Bytes, same, text}
use Rattle.packet.specs.Layout.{one_of}
use Rattle.packet.specs.Packet.{Reading, refused, got, read, requests}
use Rattle.lists.specs.Lists.{any}
use Rattle.server.specs.Table.{Table, has_handle}
use Rattle.server.specs.Rules.{is_open}
use Rattle.server.specs.Requests.{sends}
use Rattle.server_calls.specs.History.{Call, Memory}
use Rattle.demands.specs.Messages.{Message, told}
use Rattle.demands.specs.Hub.{Long, call_on, table_in}

-- the types that give somebody the handle of a job: 8 JOB_CREATED, 11 JOB_ASSIGN, 31 JOB_ASSIGN_UNIQ
abbrev pub gives_handle : ℕ → Bool
gives_handle kind = eqb kind 8 || (eqb kind 11 || eqb kind 31)

-- 000: the handle is their first argument
abbrev pub first_is : Bytes → List Bytes → Bool
first_is h [] = false
first_is h (a ∷ as') = same a h

abbrev pub reading_gives : Bytes → Reading → Bool
reading_gives h (refused n) = false
reading_gives h (got kind as') = gives_handle kind && first_is h as'

-- 01: "types 12, 13, 14, 25, 28, 29"; a worker packet names its job by its first argument
abbrev pub is_work : ℕ → Bool
is_work kind = one_of (12 ∷ 13 ∷ 14 ∷ 25 ∷ 28 ∷ 29 ∷ []) kind

-- 01: "13 and 14 end the job. 25 ends the job"
abbrev pub is_ending : ℕ → Bool
is_ending kind = one_of (13 ∷ 14 ∷ 25 ∷ []) kind

abbrev pub reading_tells : Bytes → Reading → Bool
reading_tells h (refused n) = false
reading_tells h (got kind as') = is_work kind && first_is h as'

-- 15 GET_STATUS asks for a job by its only argument
abbrev pub reading_asks : Bytes → Reading → Bool
reading_asks h (refused n) = false
reading_asks h (got kind as') = eqb kind 15 && first_is h as'

-- one of these packets gives this handle to somebody
unfoldable pub given : Bytes → List Message → Bool
given h ms = any (λ m. reading_gives h m.says) ms

-- an unfinished job of this table has this handle
unfoldable pub stands : Bytes → Table → Bool
stands h t = any (λ j. has_handle t.hub h j.row) t.jobs

-- the job with this handle was made between the first table and the second
abbrev pub is_made : Bytes → Table → Table → Bool
is_made h t u = stands h u && not (stands h t)

-- 01: "otherwise 0, 0, 0, 0 with the handle as asked"
abbrev pub unknown_job : ℕ → Bytes → Message
unknown_job c h = record { to = c; says = got 20 (h ∷ text "0" ∷ text "0" ∷ text "0" ∷ text "0" ∷ []) }

-- a handle that is nobody's: no unfinished job has it, no call gives it to anybody, and from a connection that is open a worker packet that
-- names it is refused by 14, and GET_STATUS for it is answered by an unknown status alone
pub record Spent (n : ℕ) (h : Bytes) (m : Memory) : Type 0 where
  pub nobody : stands h (table_in n m) ≡ false
  pub ungiven : (x : Call) → Long n x → given h (told (call_on n m x)) ≡ false
  pub late : (x : Call) → Long n x → (c : ℕ) (b : Bytes) → x.event ≡ sends c b → is_open (table_in n m) c ≡ true → reading_tells h (read requests b) ≡ true → (call_on n m x).number ≡ 14
  pub unknown : (x : Call) → Long n x → (c : ℕ) (b : Bytes) → x.event ≡ sends c b → is_open (table_in n m) c ≡ true → reading_asks h (read requests b) ≡ true → told (call_on n m x) ≡ unknown_job c h ∷ []
