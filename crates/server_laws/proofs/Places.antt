-- What an event makes of the job at each place, and on what ground: one walk, place by place, that needs no rule of the table. What is
-- said of serials, of the rules and of jobs that are gone follows from it, by one clause for each fate. Assumes nothing.
use Prim.Native.Nat.{ℕ, suc, ◌<◌}
use mathlib.Core.Path.{◌≡◌, refl, ap, ◌∙◌}
use mathlib.Core.Bool.{Bool, true, false, cond}
use Rattle.std.specs.Prelude.{Option, Some, None}
use mathlib.Core.List.{List, []}
use native.Mathlib.Omega.{arith}
use borrow.Author.Tests.{lt-ltb}
use lib.ListN.{length, get_or, set, get_or-map}
use lib.Dec.{ltb}
use Rattle.octets.specs.Bytes.{Bytes}
use Rattle.lists.proofs.Cases.{cond_cases}
use Rattle.lists.proofs.Rows.{clash, each_set}
use Rattle.lists.proofs.Searches.{found}
use Rattle.server.specs.Table.{Job, Table, no_job, job_at, with_row, with_holder, room_for, best, free_place, joined}
use Rattle.server.specs.Requests.{Event, opens, closes, sends, Work, Request, reset, pre_sleep, echo, can_do, cant_do, identify, grab, submit, work, get_status, option, request_in}
use Rattle.server.specs.Requests as R
use Rattle.server.specs.Events.{Send, Decision, silence, refuse, settle, dropped, forgot, lost, unless_lost, opening, closing, left_by, unable_to_all, sleeping, submitted_by, new_job, holds_handle, worked, held_job_of}
use Rattle.server_laws.proofs.Outcome.{Change, Refuses, Served, Stands, by_open, by_close, by_packet, Silences, no_connection, closes_none, sends_closed, opens_twice, Outcome}
use Rattle.server_laws.proofs.Going.{best_found, joined_inside, free_place_lem}
use Rattle.server_laws.proofs.Closing.{left_at}

-- ---- the place that a request is about

-- a submission's place: that of the job that it joins, or the free one that a new job takes, if nothing refuses it
abbrev pub place_for : Option ℕ → Option ℕ → Option ℕ → Bool → Option ℕ
place_for (Some p) o r b = Some p
place_for None None r b = None
place_for None (Some q) None b = None
place_for None (Some q) (Some p) b = cond b (Some p) None

-- the place whose job a request of connection c changes; none, if it is refused or changes no job
unfoldable pub place_changed : ℕ → Table → Request → Option ℕ
place_changed c t (submit priority background f u size) = place_for (joined t f u) (room_for t.functions f) (free_place t) (ltb t.last 4294967295)
place_changed c t (grab uniq) = best t c
place_changed c t (work how kind h n d) = held_job_of t c h
place_changed c t (R.bad n) = None
place_changed c t reset = None
place_changed c t pre_sleep = None
place_changed c t echo = None
place_changed c t (can_do f) = None
place_changed c t (cant_do f) = None
place_changed c t (identify i) = None
place_changed c t (get_status h) = None
place_changed c t (option name) = None

-- the event is not about place p: it is an open, it comes from a connection that is not open, or it is a packet that changes another place
-- or none
abbrev pub Untouched : Table → ℕ → Event → Type 0
Untouched t p (opens c) = Unit {0}
Untouched t p (closes c) = ¬ Stands t c true
Untouched t p (sends c b) = Stands t c true → ¬ (place_changed c t (request_in b) ≡ Some p)

-- what becomes of the job j at place p, and why; `last` is the last serial given out afterwards
pub data Becomes (t : Table) (last p : ℕ) (j : Job) : Event → Job → Type 0 where
  stays : (e : Event) → Untouched t p e → Becomes t last p j e j
  begins : (c : ℕ) (b : Bytes) (priority : ℕ) (background : Bool) (f u : Bytes) (size q : ℕ) → Stands t c true → request_in b ≡ submit priority background f u size → j.row.serial ≡ 0
      → joined t f u ≡ None → room_for t.functions f ≡ Some q → free_place t ≡ Some p → t.last < 4294967295 → last ≡ suc t.last
      → Becomes t last p j (sends c b) (new_job c priority background q u size (suc t.last))
  joins : (c : ℕ) (b : Bytes) (priority : ℕ) (background : Bool) (f u : Bytes) (size : ℕ) → Stands t c true → request_in b ≡ submit priority background f u size → joined t f u ≡ Some p
      → Becomes t last p j (sends c b) (with_row (submitted_by c background j.row) j)
  taken : (c : ℕ) (b : Bytes) (uniq : Bool) → Stands t c true → request_in b ≡ grab uniq → best t c ≡ Some p → Becomes t last p j (sends c b) (with_row (with_holder (suc c) j.row) j)
  told : (c : ℕ) (b : Bytes) (how : Work) (kind : ℕ) (h n d : Bytes) → Stands t c true → request_in b ≡ work how kind h n d → held_job_of t c h ≡ Some p
      → Becomes t last p j (sends c b) (worked how n d j)
  left : (c : ℕ) → Stands t c true → lost (left_by c j).row ≡ false → Becomes t last p j (closes c) (left_by c j)
  drops : (c : ℕ) → Stands t c true → lost (left_by c j).row ≡ true → Becomes t last p j (closes c) no_job

-- what the event leaves there, in any table: that job, or none, if nobody waits for it. In one that obeys the rules a close alone drops
-- jobs (`Fates`)
pub data Settles (t : Table) (last p : ℕ) (j : Job) (e : Event) : Job → Type 0 where
  goes_on : {k : Job} → Becomes t last p j e k → Settles t last p j e k
  is_lost : {k : Job} → Becomes t last p j e k → lost k.row ≡ true → Settles t last p j e no_job

-- ---- packets

module _ {t : Table} {c : ℕ} {b : Bytes} where
  -- a packet that changes no job
  none_becomes : {a : Request} {last : ℕ} → request_in b ≡ a → place_changed c t a ≡ None → (p : ℕ) → Becomes t last p (job_at t p) (sends c b) (job_at t p)
  none_becomes q r p = stays (sends c b) (λ o (y : place_changed c t (request_in b) ≡ Some p). let z : ◌≡◌ {A = ℕ} 0 1 = cc in omega arith)

  -- one that changes the job at place i
  one_becomes : {a : Request} {last : ℕ} (i : ℕ) {k : Job} → request_in b ≡ a → place_changed c t a ≡ Some i → i < length t.jobs → Becomes t last i (job_at t i) (sends c b) k
      → (p : ℕ) → Becomes t last p (job_at t p) (sends c b) (get_or (set t.jobs i k) p no_job)
  one_becomes {last = last} i {k} q r l f =
      each_set (λ p j. Becomes t last p (job_at t p) (sends c b) j) t.jobs i k no_job l f
      (λ p n. stays (sends c b) (λ o (y : place_changed c t (request_in b) ≡ Some p). n (cc)))

  -- the walk: what a change makes of each place, before the table is settled
  pub becomes : {a : Request} {ss : List Send} {u : Table} → Stands t c true → request_in b ≡ a → Change c t a ss u → (p : ℕ) → Becomes t u.last p (job_at t p) (sends c b) (job_at u p)
  unfolding place_changed unable_to_all sleeping
  becomes o q (Change.able f i r) = none_becomes q refl
  becomes o q (Change.unknown f r) = none_becomes q refl
  becomes o q (Change.disabled f i r) = none_becomes q refl
  becomes o q (Change.identified i) = none_becomes q refl
  becomes o q Change.cleared = none_becomes q refl
  becomes o q Change.slept = none_becomes q refl
  becomes o q (Change.no_job_for uniq r) = none_becomes q r
  becomes o q (Change.grabbed uniq i r) = one_becomes i q r (best_found t c i r).0 (taken c b uniq o q r)
  becomes o q (Change.joins priority background f u size i r) = one_becomes i q (rw r) (joined_inside t f u i r) (joins c b priority background f u size o q r)
  becomes o q (Change.accepts priority background f u size k i r₁ r₂ r₃ l) =
      let (z, m) = free_place_lem t i r₃ in
      one_becomes i q (rw (r₁, r₂, r₃, lt-ltb t.last 4294967295 l)) m (begins c b priority background f u size k o q z r₁ r₂ r₃ l refl)
  becomes o q (Change.worker how kind h n d i r) = one_becomes i q r (found (λ j. holds_handle t.hub c h j.row) no_job t.jobs (Some i) r).inside (told c b how kind h n d o q r)
  becomes o q (Change.status h i r) = none_becomes q refl
  becomes o q (Change.optioned name r) = none_becomes q refl
  becomes o q Change.echoed = none_becomes q refl

-- a request that is refused changes no job
refused_none : {c : ℕ} {t : Table} {a : Request} {n : ℕ} → Refuses c t a n → place_changed c t a ≡ None
unfolding place_changed
refused_none (Refuses.unread n) = refl
refused_none (Refuses.no_room f r) = refl
refused_none (Refuses.no_function priority background f u size r₁ r₂) = rw (r₁, r₂)
refused_none (Refuses.no_place priority background f u size k r₁ r₂ r₃) = rw (r₁, r₂, r₃)
refused_none (Refuses.no_serial priority background f u size k i r₁ r₂ r₃ l) = rw (r₁, r₂, r₃, l)
refused_none (Refuses.not_held how kind h n d r) = r
refused_none (Refuses.no_option name r) = refl

-- an event that is refused before anything is read comes from a connection that is not open, or is an open
silent_untouched : {t : Table} {e : Event} {n : ℕ} (p : ℕ) → Silences t e n → Untouched t p e
silent_untouched p (no_connection (by_open c) i) = tt
silent_untouched {t} p (no_connection (by_close c) i) = λ o. clash (lt-ltb c (length t.connections) o.inside) i
silent_untouched {t} p (no_connection (by_packet c b) i) = λ o. clash (lt-ltb c (length t.connections) o.inside) i
silent_untouched p (closes_none c z) = λ o. clash o.state z.state
silent_untouched p (sends_closed c b z) = λ o. clash o.state z.state
silent_untouched p (opens_twice c z) = tt

-- ---- the end of the event, and every event

-- lost jobs are dropped, and the last serial stays
pub settled_at : (ss : List Send) (u : Table) (p : ℕ) → job_at (settle ss u).table p ≡ unless_lost (job_at u p)
unfolding settle dropped forgot
settled_at ss u p = get_or-map unless_lost u.jobs p no_job

pub settled_last : (ss : List Send) (u : Table) → (settle ss u).table.last ≡ u.last
unfolding settle dropped forgot
settled_last ss u = refl

module _ {t : Table} where
  settled : {p : ℕ} {e : Event} (ss : List Send) (u : Table) → Becomes t u.last p (job_at t p) e (job_at u p) → Settles t (settle ss u).table.last p (job_at t p) e (job_at (settle ss u).table p)
  settled {p} ss u x = rw (settled_last ss u, settled_at ss u p) (cond_cases (Settles t u.last p (job_at t p) _) (lost (job_at u p).row) (is_lost x) (λ z. goes_on x))

  settles_served : {c : ℕ} {b : Bytes} {a : Request} {d : Decision} → Stands t c true → request_in b ≡ a → Served c t a d → (p : ℕ) → Settles t d.table.last p (job_at t p) (sends c b) (job_at d.table p)
  unfolding refuse
  settles_served o q (Served.refused a n r) p = goes_on (none_becomes q (refused_none r) p)
  settles_served o q (Served.done a ss u m) p = settled ss u (becomes o q m p)

  pub settles : {e : Event} {d : Decision} → Outcome t e d → (p : ℕ) → Settles t d.table.last p (job_at t p) e (job_at d.table p)
  unfolding silence opening closing
  settles (Outcome.silenced e n r) p = goes_on (stays e (silent_untouched p r))
  settles (Outcome.opened c o) p = settled [] (opening c t) (stays (opens c) tt)
  settles (Outcome.closed c o) p =
      rw (settled_at [] (closing c t) p ∙ ap unless_lost (left_at c t.jobs p))
      (cond_cases (Settles t _ p (job_at t p) (closes c)) (lost (left_by c (job_at t p)).row) (λ z. goes_on (drops c o z)) (λ z. goes_on (left c o z)))
  settles (Outcome.serves c b d o r) p = settles_served o refl r p
