-- What an event does to the serials: each place keeps its job, loses it, or gets the job with the next serial, and only a submission
-- makes a job. The last serial never falls, grows by one exactly if a job is made, and stays below 2 ^ 32. Assumes nothing.
use Prim.Native.Nat.{ℕ, suc, ◌^◌, ◌≤◌, ◌<◌}
use native.Mathlib.Nat.{le_refl, le_trans}
use native.Mathlib.Decide.{ℕ_discrete}
use native.Mathlib.Omega.{arith}
use mathlib.Core.Path.{◌≡◌, refl, ap, sym, ◌∙◌}
use mathlib.Core.Bool.{Bool, true}
use Rattle.std.specs.Prelude.{Some, None}
use mathlib.Core.List.{List, [], ◌∷◌, map}
use lib.Seq.{get_or-set_same}
use Rattle.octets.specs.Bytes.{Bytes}
use Rattle.server.specs.Table.{Job, Table, fresh, no_job, job_at, fresh_row, room_for, free_place, joined}
use Rattle.server.specs.Requests.{tells, reports, ends, throws, Event, sends, request_in, Request, submit}
use Rattle.server.specs.Events.{Send, Decision, unless_lost, silence, refuse, dropped, to_wake, settle, opening, closing, unable_to_all, sleeping, new_job, created, accepted, noop}
use Rattle.server.specs.Server.{Server, next, decided, start, after}
use Rattle.lists.proofs.Cases.{All2, all2_by, all2_at}
use Rattle.server_laws.proofs.Outcome.{Change, able, unknown, disabled, identified, cleared, slept, no_job_for, grabbed, accepts, worker, status, optioned, echoed, Served, refused, done, Stands, Outcome, silenced, opened, closed, serves, outcome}
use Rattle.server_laws.proofs.Lengths.{long_outcome}
use Rattle.server_laws.proofs.Going.{free_place_lem}
use Rattle.server_laws.proofs.Places.{stays, begins, joins, taken, told, left, drops, Settles, goes_on, is_lost, settles, settled_at, settled_last}
use Rattle.server_laws.proofs.Closing.{left_serial}
use Rattle.server_laws.proofs.Accepting.{submitted_keeps, submitted_unlost}

-- ---- places before and after

-- a place keeps its job, has none afterwards, or gets the job with this serial
pub data Follows (serial : ℕ) (j k : Job) : Type 0 where
  kept : k.row.serial ≡ j.row.serial → Follows serial j k
  ended : k.row.serial ≡ 0 → Follows serial j k
  began : k.row.serial ≡ serial → Follows serial j k

-- no job is made
pub record Stays (t u : Table) : Type 0 where
  pub jobs : All2 (Follows 0) t.jobs u.jobs
  pub last : u.last ≡ t.last

-- the job with the next serial is made for connection c, at one place, which was free; JOB_CREATED with its handle goes out first
pub record Makes (c : ℕ) (t : Table) (d : Decision) : Type 0 where
  pub jobs : All2 (Follows (suc t.last)) t.jobs d.table.jobs
  pub last : d.table.last ≡ suc t.last
  pub room : t.last < 4294967295
  pub place : ℕ
  pub free : (job_at t place).row.serial ≡ 0
  pub new : (job_at d.table place).row.serial ≡ suc t.last
  pub only : (i : ℕ) → ¬ (i ≡ place) → Follows 0 (job_at t i) (job_at d.table i)
  pub sleepers : List ℕ
  pub packets : d.packets ≡ created t.hub c (suc t.last) ∷ map noop sleepers

pub data IsSubmit : Request → Type 0 where
  is_submit_lem : {priority : ℕ} {background : Bool} {f u : Bytes} {size : ℕ} → IsSubmit (submit priority background f u size)

-- the event is a submission of connection c
pub data Submits : Event → ℕ → Type 0 where
  submits : (c : ℕ) (b : Bytes) → IsSubmit (request_in b) → Submits (sends c b) c

-- only a submission makes a job
pub data Moves (e : Event) (t : Table) (d : Decision) : Type 0 where
  keeps : Stays t d.table → Moves e t d
  adds : (c : ℕ) → Submits e c → Makes c t d → Moves e t d

-- ---- each fate

-- a new job's serial is n, if one begins here
follows : {t : Table} {last p : ℕ} {e : Event} {k : Job} (n : ℕ) → (last ≡ suc t.last → free_place t ≡ Some p → suc t.last ≡ n) → Settles t last p (job_at t p) e k → Follows n (job_at t p) k
follows n new (goes_on (stays e z)) = kept refl
follows {t} n new (goes_on (begins c b priority background f u size i o q z r₁ r₂ r₃ l e)) = began ((submitted_keeps c background (fresh_row (suc t.last) i priority size)).serial ∙ new e r₃)
follows {t} {p = p} n new (goes_on (joins c b priority background f u size o q r)) = kept (submitted_keeps c background (job_at t p).row).serial
follows n new (goes_on (taken c b uniq o q r)) = kept refl
follows n new (goes_on (told c b tells kind h x y o q r)) = kept refl
follows n new (goes_on (told c b reports kind h x y o q r)) = kept refl
follows n new (goes_on (told c b ends kind h x y o q r)) = ended refl
follows n new (goes_on (told c b throws kind h x y o q r)) = ended refl
follows {t} {p = p} n new (goes_on (left c o z)) = kept (left_serial c (job_at t p))
follows n new (goes_on (drops c o z)) = ended refl
follows n new (is_lost x z) = ended refl

all_follow : {t : Table} {e : Event} {d : Decision} (n : ℕ) → (d.table.last ≡ suc t.last → suc t.last ≡ n) → Outcome t e d → All2 (Follows n) t.jobs d.table.jobs
all_follow {t} {d = d} n new o = all2_by t.jobs d.table.jobs no_job no_job (sym (long_outcome t o).jobs) (λ p. follows n (λ e y. new e) (settles o p))

-- ---- every event

-- where the last serial stays, no job is made
quiet : {t : Table} {e : Event} {d : Decision} → Outcome t e d → d.table.last ≡ t.last → Moves e t d
quiet o e = keeps (record { jobs = all_follow 0 (λ r. absurd (omega arith)) o; last = e })

module _ {c : ℕ} {t : Table} (o : Stands t c true) (b : Bytes) where
  serves_by : {a : Request} {d : Decision} → request_in b ≡ a → Served c t a d → Outcome t (sends c b) d
  serves_by {d = d} q r = serves c b d o (rw q r)

  same_last : {a : Request} {ss : List Send} {u : Table} → request_in b ≡ a → Change c t a ss u → u.last ≡ t.last → Moves (sends c b) t (settle ss u)
  same_last {ss = ss} {u} q m e = quiet (serves_by q (done _ ss u m)) (settled_last ss u ∙ e)

  made : (priority : ℕ) (background : Bool) (f u : Bytes) (size i p : ℕ) → request_in b ≡ submit priority background f u size
      → joined t f u ≡ None → room_for t.functions f ≡ Some i → free_place t ≡ Some p → t.last < 4294967295
      → Makes c t (settle (created t.hub c (suc t.last) ∷ []) (accepted i f p (new_job c priority background i u size (suc t.last)) t))
  unfolding settle
  made priority background f u size i p q r₁ r₂ r₃ l =
      let ss = created t.hub c (suc t.last) ∷ [] in
      let row = fresh_row (suc t.last) i priority size in
      let j : Job = new_job c priority background i u size (suc t.last) in
      let v = accepted i f p j t in
      let x : Outcome t (sends c b) (settle ss v) = serves_by q (done _ ss v (accepts priority background f u size i p r₁ r₂ r₃ l)) in
      let (z, h) = free_place_lem t p r₃ in
      record {
        jobs = all_follow _ (λ e. refl) x;
        last = settled_last ss v;
        room = l;
        place = p;
        free = z;
        new =
            ap (λ (k : Job). k.row.serial) (settled_at ss v p ∙ ap unless_lost (get_or-set_same t.jobs p j no_job h))
            ∙ rw (submitted_unlost c background row) (submitted_keeps c background row).serial;
        only = λ k n. follows 0 (λ e (y : free_place t ≡ Some k). absurd (n (cc))) (settles x k);
        sleepers = to_wake (dropped v);
        packets = refl;
      }

  change_moves : {a : Request} {ss : List Send} {u : Table} → request_in b ≡ a → Change c t a ss u → Moves (sends c b) t (settle ss u)
  unfolding unable_to_all sleeping
  change_moves q (able f i e) = same_last q (able f i e) refl
  change_moves q (unknown f e) = same_last q (unknown f e) refl
  change_moves q (disabled f i e) = same_last q (disabled f i e) refl
  change_moves q (identified i) = same_last q (identified i) refl
  change_moves q cleared = same_last q cleared refl
  change_moves q slept = same_last q slept refl
  change_moves q (no_job_for uniq e) = same_last q (no_job_for uniq e) refl
  change_moves q (grabbed uniq p e) = same_last q (grabbed uniq p e) refl
  change_moves q (Change.joins priority background f u size p e) = same_last q (Change.joins priority background f u size p e) refl
  change_moves q (accepts priority background f u size i p e₁ e₂ e₃ l) = adds c (submits c b (rw q is_submit_lem)) (made priority background f u size i p q e₁ e₂ e₃ l)
  change_moves q (worker how kind h n d p e) = same_last q (worker how kind h n d p e) refl
  change_moves q (status h i e) = same_last q (status h i e) refl
  change_moves q (optioned name e) = same_last q (optioned name e) refl
  change_moves q echoed = same_last q echoed refl

  served_moves : {a : Request} {d : Decision} → request_in b ≡ a → Served c t a d → Moves (sends c b) t d
  unfolding refuse
  served_moves q (refused a n r) = quiet (serves_by q (refused a n r)) refl
  served_moves q (done a ss u m) = change_moves q m

outcome_moves : {t : Table} {e : Event} {d : Decision} → Outcome t e d → Moves e t d
unfolding opening closing silence
outcome_moves (silenced e n r) = quiet (silenced e n r) refl
outcome_moves {t} (opened c o) = quiet (opened c o) (settled_last [] (opening c t))
outcome_moves {t} (closed c o) = quiet (closed c o) (settled_last [] (closing c t))
outcome_moves (serves c b d o r) = served_moves o b refl r

pub moved : (e : Event) (s : Server) → Moves e s.table (decided e s)
moved e s = outcome_moves (outcome e s)

-- ---- jobs that an event creates, and the last serial

-- the event makes a job with this serial: some place has it afterwards and had it not before
pub record Creates (s : Server) (e : Event) (serial : ℕ) : Type 0 where
  pub place : ℕ
  pub is : (job_at (next e s).table place).row.serial ≡ serial
  pub some : ¬ (serial ≡ 0)
  pub new : ¬ ((job_at s.table place).row.serial ≡ serial)

-- it is a submission that did, the serial is the next one, and it fits into four bytes
pub record Numbered (s : Server) (e : Event) (serial : ℕ) : Type 0 where
  pub sender : ℕ
  pub asks : Submits e sender
  pub is : serial ≡ suc s.table.last
  pub last : (next e s).table.last ≡ serial
  pub room : serial < 2 ^ 32

began_is : (n k : ℕ) (j l : Job) → l.row.serial ≡ k → ¬ (k ≡ 0) → ¬ (j.row.serial ≡ k) → Follows n j l → k ≡ n
began_is n k j l p z m (kept q) = absurd (m (sym q ∙ p))
began_is n k j l p z m (ended q) = absurd (z (sym p ∙ q))
began_is n k j l p z m (began q) = sym p ∙ q

creates_is : {s : Server} {e : Event} {k : ℕ} (n : ℕ) → Creates s e k → All2 (Follows n) s.table.jobs (decided e s).table.jobs → k ≡ n
unfolding next
creates_is {k = k} n c js = began_is n k _ _ c.is c.some c.new (all2_at js c.place no_job no_job (kept refl))

-- where nothing new may stand but at one place, what is created stands there
here : {s : Server} {e : Event} {k : ℕ} (p : ℕ) → ((i : ℕ) → ¬ (i ≡ p) → Follows 0 (job_at s.table i) (job_at (decided e s).table i)) → (c : Creates s e k) → c.place ≡ p
unfolding next
here {k = k} p only c = elim (ℕ_discrete c.place p) [
  | yes q ↦ q
  | no n ↦ absurd (c.some (began_is 0 k _ _ c.is c.some c.new (only c.place n)))
]

-- an event makes no job and creates nothing, or makes one, and the job with the next serial is created
pub data Creation (s : Server) (e : Event) : Type 0 where
  nothing : Stays s.table (next e s).table → ((k : ℕ) → ¬ Creates s e k) → Creation s e
  one : (c : ℕ) → Submits e c → Makes c s.table (decided e s) → Creates s e (suc s.table.last) → ((k : ℕ) → Creates s e k → Numbered s e k) → Creation s e

creation_by : (s : Server) (e : Event) → Moves e s.table (decided e s) → Creation s e
unfolding next
creation_by s e (keeps m) = nothing m (λ k c. c.some (creates_is 0 c m.jobs))
creation_by s e (adds d i m) =
    one d i m
    (record { place = m.place; is = m.new; some = λ z. omega arith; new = λ z. omega (arith, m.free) })
    (λ k c. let q : k ≡ suc s.table.last = creates_is _ c m.jobs in record { sender = d; asks = i; is = q; last = m.last ∙ sym q; room = omega (arith, m.room) })

pub creation : (s : Server) (e : Event) → Creation s e
creation s e = creation_by s e (moved e s)

-- "Serials are never used again": what is created is numbered by the next serial
pub numbered : {s : Server} {e : Event} {k : ℕ} → Creates s e k → Numbered s e k
numbered {s} {e} {k} c = elim (creation s e) [ nothing m n ↦ absurd (n k c) | one d i m x f ↦ f k c ]

-- an event creates a job at one place only
pub one_place : {s : Server} {e : Event} {k m : ℕ} (c : Creates s e k) (d : Creates s e m) → c.place ≡ d.place
unfolding next
one_place {s} {e} {k} {m} c d = elim (creation s e) [ nothing w n ↦ absurd (n k c) | one a i w x f ↦ here w.place w.only c ∙ sym (here w.place w.only d) ]

-- the last serial grows by one exactly if a job is created
pub grown_creates : (s : Server) (e : Event) → (next e s).table.last ≡ suc s.table.last → Creates s e (suc s.table.last)
grown_creates s e g = elim (creation s e) [ nothing m n ↦ absurd (omega (arith, m.last)) | one c i m d f ↦ d ]

pub creates_grown : {s : Server} {e : Event} {k : ℕ} → Creates s e k → (next e s).table.last ≡ suc s.table.last
creates_grown c = let x = numbered c in x.last ∙ x.is

-- it never falls, over one event and over any
pub last_kept : (s : Server) (e : Event) → s.table.last ≤ (next e s).table.last
last_kept s e = elim (creation s e) [ nothing m n ↦ omega (arith, m.last) | one c i m d f ↦ omega (arith, (f _ d).last) ]

pub last_rises : (es : List Event) (s : Server) → s.table.last ≤ (after s es).table.last
unfolding after
last_rises [] s = le_refl _
last_rises (e ∷ es) s = le_trans (last_kept s e) (last_rises es (next e s))

-- and it stays below 2 ^ 32, over one event, and over any from a fresh table on
pub last_small : (s : Server) (e : Event) → s.table.last < 2 ^ 32 → (next e s).table.last < 2 ^ 32
last_small s e h = elim (creation s e) [ nothing m n ↦ omega (arith, m.last) | one c i m d f ↦ omega (arith, (f _ d).last, (f _ d).room) ]

small_after : (es : List Event) (s : Server) → s.table.last < 2 ^ 32 → (after s es).table.last < 2 ^ 32
unfolding after
small_after [] s h = h
small_after (e ∷ es) s h = small_after es (next e s) (last_small s e h)

pub last_below : (n : ℕ) (hub : Bytes) (es : List Event) → (after (start n hub) es).table.last < 2 ^ 32
unfolding start fresh
last_below n hub es = small_after es (start n hub) (omega arith)
