-- Events that give nobody more to grab: at their end no job is dropped, nobody is woken, and exactly the event's own packets go out.
-- For a table that obeys the rules. Assumes nothing.
use Prim.Native.Nat.{ℕ, ◌<◌}
use mathlib.Core.Path.{◌≡◌, refl, ap}
use mathlib.Core.Bool.{Bool, true, false, not, ◌&&◌, ◌||◌}
use mathlib.Core.List.{List, append-nil}
use native.Mathlib.Decide.{ℕ_discrete}
use lib.ListN.{length, length-set}
use lib.Seq.{get_or-set_same, get_or-set_other}
use Rattle.octets.proofs.Strings.{and_both}
use Rattle.sets.specs.Sets.{is_empty}
use Rattle.server.specs.declared.JobRow.{JobRow}
use Rattle.server.specs.Table.{Job, Table, no_job, connection_at, job_at, ables_of, set_job, queued, grabbable}
use Rattle.server.specs.Events.{Send, Decision, settle, forgot}
use Rattle.lists.specs.Lists.{implies}
use Rattle.server.specs.Rules.{queued_awaited, sleepers_idle}
use Rattle.lists.proofs.Rows.{clash, never, implies_by, all_set}
use Rattle.server_laws.proofs.Numbers.{row_passes, row_where}
use Rattle.server_laws.proofs.Settled.{idle_by}
use Rattle.server_laws.proofs.AtRest.{drops_none, sleeps_on, none_to_wake, connections_stay}
use Rattle.server_laws.proofs.Words.{has_work}

pub and_off : (b : Bool) → b && false ≡ false
and_off true = refl
and_off false = refl

-- the end of the event sends nothing more and leaves jobs and connections alone; it may forget a function
pub record Quiet (ss : List Send) (u : Table) (d : Decision) : Type 0 where
  pub number : d.number ≡ 0
  pub packets : d.packets ≡ ss
  pub connections : d.table.connections ≡ u.connections
  pub jobs : d.table.jobs ≡ u.jobs
  pub last : d.table.last ≡ u.last

pub quiet : (ss : List Send) (u : Table) → queued_awaited u ≡ true → sleepers_idle u ≡ true → Quiet ss u (settle ss u)
unfolding settle forgot
quiet ss u a i =
    record {
      number = refl;
      packets = rw (drops_none u a, none_to_wake u i) (append-nil ss);
      connections = rw (drops_none u a) (connections_stay u i);
      jobs = rw (drops_none u a);
      last = rw (drops_none u a);
    }

-- ---- nobody has more to grab

-- in u nobody sleeps who did not sleep in t, and nobody has a grabbable job in u who had none in t
pub record NoMore (t u : Table) : Type 0 where
  pub long : length u.connections ≡ length t.connections
  pub asleep : (k : ℕ) → (connection_at u k).asleep ≡ true → (connection_at t k).asleep ≡ true
  pub grabs : (k : ℕ) → has_work u k ≡ true → has_work t k ≡ true

pub idle_kept : (t u : Table) → NoMore t u → sleepers_idle t ≡ true → sleepers_idle u ≡ true
idle_kept t u m i =
    idle_by u (λ k l. implies_by (connection_at u k).asleep _ (λ a. ap not (never _ (λ w.
    clash (and_both (connection_at t k).asleep _ (m.asleep k a) (m.grabs k w)) (sleeps_on t i k (rw m.long at l))))))

-- a job that can be grabbed in u stands at a place where one could be grabbed in t
pub work_from : (t u : Table) (k : ℕ) → length u.jobs ≡ length t.jobs
    → ((i : ℕ) → grabbable (ables_of u) k (job_at u i).row ≡ true → grabbable (ables_of t) k (job_at t i).row ≡ true) → has_work u k ≡ true → has_work t k ≡ true
work_from t u k long f w =
    let (i, l, g) = row_where u (grabbable (ables_of u) k) w in
    row_passes t (grabbable (ables_of t) k) i (rw long at l) (f i g)

-- ---- one job anew

-- a queued job is background or has a listener
abbrev pub awaited : JobRow → Bool
awaited r = implies (queued r) (r.background || not (is_empty r.listeners))

module _ (t : Table) (w : queued_awaited t ≡ true) (s : sleepers_idle t ≡ true) (p : ℕ) (x : Job) (inside : p < length t.jobs) (a : awaited x.row ≡ true)
    (g : (ables : List ℕ) (k : ℕ) → grabbable ables k x.row ≡ true → grabbable ables k (job_at t p).row ≡ true) where
  job_before : (k i : ℕ) → Dec (i ≡ p) → grabbable (ables_of t) k (job_at (set_job t p x) i).row ≡ true → grabbable (ables_of t) k (job_at t i).row ≡ true
  job_before k i (yes e) q =
      let z : job_at (set_job t p x) i ≡ x = rw e (get_or-set_same t.jobs p x no_job inside) in
      rw e (g (ables_of t) k (rw z at q))
  job_before k i (no d) q = let z : job_at (set_job t p x) i ≡ job_at t i = get_or-set_other t.jobs p i x no_job d in rw z at q

  pub one_job_quiet : (ss : List Send) → Quiet ss (set_job t p x) (settle ss (set_job t p x))
  one_job_quiet ss =
      let m : NoMore t (set_job t p x) = record { long = refl; asleep = λ k e. e; grabs = λ k. work_from t (set_job t p x) k (length-set t.jobs p x) (λ i. job_before k i (ℕ_discrete i p)) } in
      quiet ss (set_job t p x) (all_set (λ j. awaited j.row) t.jobs p x w a) (idle_kept t (set_job t p x) m s)
