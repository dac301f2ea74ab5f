-- 01: a submission that joins an unfinished job: "its own workload and priority are dropped". The job keeps its priority, serial, place,
-- function and workload; JOB_CREATED with its handle goes out alone, so nobody is woken. For a table that obeys the rules.
-- Assumes nothing.
use Prim.Native.Nat.{ℕ, ◌<◌}
use mathlib.Core.Path.{◌≡◌, refl, ap, sym, ◌∙◌}
use mathlib.Core.Logic.{◌≢◌}
use mathlib.Core.Bool.{Bool, true, false}
use Rattle.std.specs.Prelude.{Some}
use mathlib.Core.List.{List, [], ◌∷◌}
use borrow.Author.Tests.{eq-eqb, lt-ltb}
use lib.ListN.{length, get_or, set}
use lib.Seq.{get_or-set_same, get_or-set_other}
use Rattle.octets.specs.Bytes.{Bytes}
use Rattle.server.specs.Table.{Job, Table, no_job, job_at, set_job, with_row, grabbable, joins, joined}
use Rattle.server.specs.Requests.{sends, request_in, submit}
use Rattle.server.specs.Events.{Decision, created, submitted_by, submit_to, served, only_if_open}
use Rattle.server.specs.Server.{Server, opaque_of, rework, decided, next}
use Rattle.server.specs.Rules.{obeys}
use Rattle.lists.proofs.Cases.{All2, all2_set}
use Rattle.lists.proofs.Searches.{found}
use Rattle.server_laws.proofs.Outcome.{Stands}
use Rattle.server_laws.proofs.Accepting.{Kept, submitted_keeps, submitted_awaited}
use Rattle.server_laws.proofs.Obeyed.{obeyed}
use Rattle.server_words.proofs.Quiet.{Quiet, one_job_quiet}

joined_grabbable : (c : ℕ) (background : Bool) (j : Job) (ables : List ℕ) (k : ℕ) → grabbable ables k (submitted_by c background j.row) ≡ true → grabbable ables k j.row ≡ true
joined_grabbable c true j ables k e = e
joined_grabbable c false j ables k e = e

module _ (t : Table) (c priority : ℕ) (background : Bool) (f u : Bytes) (size p : ℕ) (here : joined t f u ≡ Some p) (h : obeys t ≡ true) where
  abbrev answered : Decision
  answered = served c (submit priority background f u size) t

  abbrev joiner : Job
  joiner = with_row (submitted_by c background (job_at t p).row) (job_at t p)

  inside : p < length t.jobs
  unfolding joined
  inside = (found (joins t.functions f u) no_job t.jobs (Some p) here).inside

  -- JOB_CREATED with the job's own handle, and nothing else
  pub join_quiet : Quiet (created t.hub c (job_at t p).row.serial ∷ []) (set_job t p joiner) answered
  unfolding served submit_to
  join_quiet =
      rw here
      (one_job_quiet t (obeyed t h).awaited (obeyed t h).idle p joiner inside (submitted_awaited c background (job_at t p).row) (joined_grabbable c background (job_at t p)) (created t.hub c (job_at t p).row.serial ∷ []))

  row_after : (i : ℕ) → job_at answered.table i ≡ get_or (set t.jobs p joiner) i no_job
  row_after i = ap (λ (js : List Job). get_or js i no_job) join_quiet.jobs

  -- serial, function, priority, holder and size stay, at the same place
  pub join_keeps : Kept (job_at t p).row (job_at answered.table p).row
  join_keeps = rw (row_after p, get_or-set_same t.jobs p joiner no_job inside) (submitted_keeps c background (job_at t p).row)

  -- every other job stays as it is
  pub join_others : (i : ℕ) → i ≢ p → job_at answered.table i ≡ job_at t i
  join_others i d = row_after i ∙ get_or-set_other t.jobs p i joiner no_job d

  pub join_connections : answered.table.connections ≡ t.connections
  join_connections = join_quiet.connections

-- ---- workloads

-- a place keeps its bytes while it keeps its job
kept_workloads : {js ks : List Job} → All2 (λ (j k : Job). k.row.serial ≡ j.row.serial) js ks → (o : Bytes) (ws : List Bytes) → rework js ks o ws ≡ ws
kept_workloads All2.none o ws = refl
kept_workloads (All2.more e es) o [] = refl
kept_workloads (All2.more {a = j} {b = k} e es) o (w ∷ ws) = rw (eq-eqb j.row.serial k.row.serial (sym e)) (ap {B = List Bytes} (λ (vs : List Bytes). w ∷ vs) (kept_workloads es o ws))

pub join_workloads : (c : ℕ) (b : Bytes) (s : Server) (priority : ℕ) (background : Bool) (f u : Bytes) (size p : ℕ) → request_in b ≡ submit priority background f u size
    → joined s.table f u ≡ Some p → Stands s.table c true → obeys s.table ≡ true → (next (sends c b) s).workloads ≡ s.workloads
unfolding next decided only_if_open
join_workloads c b s priority background f u size p q here o h =
    let t = s.table in
    let j = with_row (submitted_by c background (job_at t p).row) (job_at t p) in
    let z : (decided (sends c b) s).table.jobs ≡ set t.jobs p j = rw (lt-ltb c (length t.connections) o.inside, o.state, q) (join_quiet t c priority background f u size p here h).jobs in
    ap (λ (ks : List Job). rework t.jobs ks (opaque_of (sends c b)) s.workloads) z
    ∙ kept_workloads (all2_set (λ (j k : Job). k.row.serial ≡ j.row.serial) (λ j. refl) t.jobs p no_job j (submitted_keeps c background (job_at t p).row).serial) (opaque_of (sends c b)) s.workloads
