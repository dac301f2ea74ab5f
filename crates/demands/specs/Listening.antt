-- Who has been told a job's handle since it opened its connection, and who has set the option `exceptions`, from a history's events and
-- answers alone; and what the table says of both. Assumes nothing.
use Rattle.std.specs.Prelude.{ℕ, Bool, true, false, cond, ◌||◌, ◌&&◌, ◌≡◌, List, [], ◌∷◌, map, eqb, ltb}
use Rattle.octets.specs.Bytes.{Bytes}
use Rattle.sets.specs.Sets.{has}
use Rattle.packet.specs.Layout.{one_of}
use Rattle.packet.specs.Packet.{Reading, refused, got}
use Rattle.lists.specs.Lists.{any, is_in, implies, pairwise}
use Rattle.server.specs.Table.{Table, connection_at, has_handle}
use Rattle.server.specs.Requests.{Event, opens, closes, sends}
use Rattle.server.specs.Call.{Result}
use Rattle.server_calls.specs.History.{Call}
use Rattle.demands.specs.Messages.{Message, told}
use Rattle.demands.specs.Handles.{first_is}
use Rattle.demands.specs.Conditions.{type_of}

-- the event opens or closes connection c
abbrev pub turns : ℕ → Event → Bool
turns c (opens d) = eqb d c
turns c (closes d) = eqb d c
turns c (sends d b) = false

-- the submissions in the foreground: 7 SUBMIT_JOB, 21 SUBMIT_JOB_HIGH, 33 SUBMIT_JOB_LOW
abbrev pub is_foreground : ℕ → Bool
is_foreground kind = one_of (7 ∷ 21 ∷ 33 ∷ []) kind

-- the event is one of them, from connection c
abbrev pub submits : ℕ → Event → Bool
submits c (opens d) = false
submits c (closes d) = false
submits c (sends d b) = eqb d c && is_foreground (type_of b)

-- one of these packets is JOB_CREATED with this handle, to connection c
abbrev pub created_is : Bytes → Reading → Bool
created_is h (refused n) = false
created_is h (got kind as') = eqb kind 8 && first_is h as'

unfoldable pub tells_created : ℕ → Bytes → List Message → Bool
tells_created c h ms = any (λ m. eqb m.to c && created_is h m.says) ms

-- whether connection c has been told handle h since its open, after one more event with this number and these packets: an open or a close
-- that is done begins anew; JOB_CREATED in answer to its own foreground submission tells it
abbrev pub heard_after : ℕ → Bytes → Bool → Event → ℕ → List Message → Bool
heard_after c h before e number ms = cond (eqb number 0 && turns c e) false (before || (submits c e && tells_created c h ms))

-- so over a history
unfoldable pub heard : ℕ → Bytes → Bool → List Call → List Result → Bool
heard c h before [] rs = before
heard c h before (x ∷ xs) [] = before
heard c h before (x ∷ xs) (r ∷ rs) = heard c h (heard_after c h before x.event r.number (told r)) xs rs

-- connection c is a listener of the job with this handle
unfoldable pub listens : ℕ → Bytes → Table → Bool
listens c h t = any (λ j. has_handle t.hub h j.row && has j.row.listeners c) t.jobs

-- ---- who asked for exceptions

-- the event is OPTION_REQ, type 26, from connection c
abbrev pub sets_option : ℕ → Event → Bool
sets_option c (opens d) = false
sets_option c (closes d) = false
sets_option c (sends d b) = eqb d c && eqb (type_of b) 26

-- whether connection c has set the option since its open, after one more event with this number: an open or a close that is done begins
-- anew; OPTION_REQ that is done sets it, the only option there is
abbrev pub catches_after : ℕ → Bool → Event → ℕ → Bool
catches_after c before e number = cond (eqb number 0 && turns c e) false (before || (eqb number 0 && sets_option c e))

-- so over a history
unfoldable pub catches : ℕ → Bool → List Call → List Result → Bool
catches c before [] rs = before
catches c before (x ∷ xs) [] = before
catches c before (x ∷ xs) (r ∷ rs) = catches c (catches_after c before x.event r.number) xs rs

-- connection l has set it, by the table
abbrev pub option_in : Table → ℕ → Bool
option_in t l = (connection_at t l).exceptions

-- ---- results

-- who gets the copy, where these have set the option. 01: "25 ends the job and goes only to listeners that set `exceptions`"
abbrev pub wants : (ℕ → Bool) → ℕ → ℕ → Bool
wants set kind l = implies (eqb kind 25) (set l)

-- what a worker packet of this type and with these arguments, of the job with handle h, tells connection l: it is the copy, or, 02: "all
-- others get WORK_FAIL with the handle alone"
abbrev pub result_for : (ℕ → Bool) → ℕ → List Bytes → Bytes → ℕ → Reading
result_for set kind args h l = cond (wants set kind l) (got kind args) (got 14 (h ∷ []))

-- these packets are one packet each to some connections, in rising order, none twice: exactly to those of the set, and to each the one that
-- is its own
pub record EachOnce (set : ℕ → Bool) (own : ℕ → Reading) (ms : List Message) : Type 0 where
  pub to : List ℕ
  pub packets : ms ≡ map (λ l. record { to = l; says = own l }) to
  pub rising : pairwise ltb to ≡ true
  pub exactly : (l : ℕ) → is_in l to ≡ set l
