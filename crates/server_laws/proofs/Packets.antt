-- One walk through the packets: each packet that an event sends, with the reason why. A theorem about every packet is one clause for each
-- reason. Assumes nothing.
use Prim.Native.Nat.{ℕ, zero, suc, ◌<◌}
use mathlib.Core.Path.{◌≡◌, refl}
use mathlib.Core.Bool.{Bool, true, false}
use Rattle.std.specs.Prelude.{Option, Some, None}
use mathlib.Core.List.{List, [], ◌∷◌}
use lib.ListN.{length}
use Rattle.octets.specs.Bytes.{Bytes, same}
use Rattle.sets.specs.Sets.{has, members}
use Rattle.lists.proofs.Cases.{All, cond_cases, all_append, all_map, all_any}
use Rattle.server.specs.declared.JobRow.{JobRow}
use Rattle.server.specs.Table.{Table, job_at, best, joined, job_of}
use Rattle.server.specs.Requests.{Event, sends, Work, Request, grab, submit, work, get_status, option, echo, request_in}
use Rattle.server.specs.Refusals.{is_told}
use Rattle.server.specs.Events.{Send, plain, copy, assign, Decision, silence, refuse, settle, error, noop, created, dropped, to_wake, unable_to_all, sleeping, hears, failure, to_listener, to_listeners, status_of, exceptions_name, held_job_of}
use Rattle.server.specs.Server.{Server, decided}
use Rattle.server_laws.proofs.Outcome.{Change, Served, Outcome, outcome}
use Rattle.server_laws.proofs.Places.{settled_last}

-- why an event sends a packet, on table t; the event leaves `last` as last serial
pub data Sends (t : Table) (last : ℕ) : Event → Send → Type 0 where
  an_error : (c : ℕ) (b : Bytes) (n : ℕ) → is_told n ≡ true → Sends t last (sends c b) (error c n)
  no_job_lem : (c : ℕ) (b : Bytes) (uniq : Bool) → request_in b ≡ grab uniq → best t c ≡ None → Sends t last (sends c b) (plain c 10 [])
  the_job : (c : ℕ) (b : Bytes) (uniq : Bool) → request_in b ≡ grab uniq → (p : ℕ) → best t c ≡ Some p → Sends t last (sends c b) (assign uniq c p)
  handle_joined : (c : ℕ) (b : Bytes) (priority : ℕ) (background : Bool) (f u : Bytes) (size : ℕ) → request_in b ≡ submit priority background f u size → (p : ℕ) → joined t f u ≡ Some p
      → Sends t last (sends c b) (created t.hub c (job_at t p).row.serial)
  handle_made : (c : ℕ) (b : Bytes) (priority : ℕ) (background : Bool) (f u : Bytes) (size : ℕ) → request_in b ≡ submit priority background f u size → t.last < 4294967295 → last ≡ suc t.last
      → Sends t last (sends c b) (created t.hub c (suc t.last))
  a_copy : (c : ℕ) (b : Bytes) (how : Work) (kind : ℕ) (h n d : Bytes) → request_in b ≡ work how kind h n d → (p : ℕ) → held_job_of t c h ≡ Some p
      → (l : ℕ) → has (job_at t p).row.listeners l ≡ true → hears how t l ≡ true → Sends t last (sends c b) (copy l kind)
  a_failure : (c : ℕ) (b : Bytes) (how : Work) (kind : ℕ) (h n d : Bytes) → request_in b ≡ work how kind h n d → (p : ℕ) → held_job_of t c h ≡ Some p
      → (l : ℕ) → has (job_at t p).row.listeners l ≡ true → hears how t l ≡ false → Sends t last (sends c b) (failure t.hub (job_at t p).row.serial l)
  a_status : (c : ℕ) (b h : Bytes) → request_in b ≡ get_status h → (o : Option ℕ) → job_of t h ≡ o → Sends t last (sends c b) (plain c 20 (status_of o h t))
  an_option_lem : (c : ℕ) (b name : Bytes) → request_in b ≡ option name → same name exceptions_name ≡ true → Sends t last (sends c b) (plain c 27 (name ∷ []))
  an_echo : (c : ℕ) (b : Bytes) → request_in b ≡ echo → Sends t last (sends c b) (copy c 17)
  a_noop : {e : Event} (l : ℕ) → Sends t last e (noop l)

-- ---- the listeners of a job

members_have : (n s : ℕ) → All (λ (l : ℕ). has s l ≡ true) (members n s)
unfolding members
members_have zero s = All.none
members_have (suc n) s = all_append (members_have n s) (cond_cases (All (λ (l : ℕ). has s l ≡ true)) (has s n) (λ e. All.more e All.none) (λ e. All.none))

-- each gets the copy, or WORK_FAIL
pub told_each : (how : Work) (kind : ℕ) (t : Table) (r : JobRow) {P : Send → Type 0} → ((l : ℕ) → has r.listeners l ≡ true → hears how t l ≡ true → P (copy l kind))
    → ((l : ℕ) → has r.listeners l ≡ true → hears how t l ≡ false → P (failure t.hub r.serial l)) → All P (to_listeners how kind t r)
unfolding to_listeners
told_each how kind t r {P} f g = all_map (to_listener how kind t r) (λ l m. cond_cases P (hears how t l) (f l m) (g l m)) (members_have (length t.connections) r.listeners)

-- ---- the walk

module _ (c : ℕ) (b : Bytes) (t : Table) where
  change_sends : {a : Request} {ss : List Send} {u : Table} → request_in b ≡ a → Change c t a ss u → All (Sends t u.last (sends c b)) ss
  unfolding unable_to_all sleeping
  change_sends q (Change.able f k r) = All.none
  change_sends q (Change.unknown f r) = All.none
  change_sends q (Change.disabled f k r) = All.none
  change_sends q (Change.identified i) = All.none
  change_sends q Change.cleared = All.none
  change_sends q Change.slept = All.none
  change_sends q (Change.no_job_for uniq r) = All.more (no_job_lem c b uniq q r) All.none
  change_sends q (Change.grabbed uniq p r) = All.more (the_job c b uniq q p r) All.none
  change_sends q (Change.joins priority background f u size p r) = All.more (handle_joined c b priority background f u size q p r) All.none
  change_sends q (Change.accepts priority background f u size k p r₁ r₂ r₃ l) = All.more (handle_made c b priority background f u size q l refl) All.none
  change_sends q (Change.worker how kind h n d p r) =
      told_each how kind t (job_at t p).row (a_copy c b how kind h n d q p r) (a_failure c b how kind h n d q p r)
  change_sends q (Change.status h o r) = All.more (a_status c b h q o r) All.none
  change_sends q (Change.optioned name r) = All.more (an_option_lem c b name q r) All.none
  change_sends q Change.echoed = All.more (an_echo c b q) All.none

settled_sends : {t : Table} (e : Event) (ss : List Send) (u : Table) → All (Sends t u.last e) ss → All (Sends t (settle ss u).table.last e) (settle ss u).packets
unfolding settle
settled_sends {t} e ss u p = rw (settled_last ss u) (all_append p (all_map noop {Q = λ l. Unit {0}} (λ l x. a_noop l) (all_any (λ l. tt) (to_wake (dropped u)))))

served_sends : (c : ℕ) (b : Bytes) (t : Table) {a : Request} {d : Decision} → request_in b ≡ a → Served c t a d → All (Sends t d.table.last (sends c b)) d.packets
unfolding refuse
served_sends c b t q (Served.refused a n r) = cond_cases (All (Sends t t.last (sends c b))) (is_told n) (λ h. All.more (an_error c b n h) All.none) (λ h. All.none)
served_sends c b t q (Served.done a ss u m) = settled_sends (sends c b) ss u (change_sends c b t q m)

outcome_sends : (t : Table) {e : Event} {d : Decision} → Outcome t e d → All (Sends t d.table.last e) d.packets
unfolding silence
outcome_sends t (Outcome.silenced e n r) = All.none
outcome_sends t (Outcome.opened c o) = settled_sends _ [] _ All.none
outcome_sends t (Outcome.closed c o) = settled_sends _ [] _ All.none
outcome_sends t (Outcome.serves c b d o r) = served_sends c b t refl r

-- every packet of every event
pub why_sent : (e : Event) (s : Server) → All (Sends s.table (decided e s).table.last e) (decided e s).packets
why_sent e s = outcome_sends s.table (outcome e s)
