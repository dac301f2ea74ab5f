-- No event changes how many connections, client ids, functions, jobs and workloads there are, nor a workload's 1,024 bytes, nor the name of the
-- hub. Assumes nothing.
use Prim.Native.Nat.{ℕ, suc}
use mathlib.Core.Path.{◌≡◌, refl, ap, ◌∙◌}
use mathlib.Core.Bool.{false}
use mathlib.Core.List.{List, [], ◌∷◌, map}
use lib.ListN.{length, length-set, length-map, length-replicate}
use lib.Dec.{eqb}
use Rattle.octets.specs.Bytes.{Bytes}
use Rattle.server.specs.declared.Connection.{Connection}
use Rattle.server.specs.declared.JobRow.{JobRow}
use Rattle.server.specs.Table.{Function, Job, Table, closed, function_at, live, set_connection, set_function, set_id, set_job, with_jobs, with_last_serial, with_name}
use Rattle.server.specs.Requests.{Event, Request}
use Rattle.server.specs.Events.{Send, Decision, silence, refuse, settle, dropped, woken_in, forgot, unless_lost, opening, closing, unable, left_by, unable_to_all, sleeping}
use Rattle.server.specs.Server.{Server, reworked, rework, decided, next, after, opaque_of}
use Rattle.lists.proofs.Lists.{length_fit}
use Rattle.lists.proofs.Cases.{cond_both, All}
use Rattle.server_laws.proofs.Outcome.{Change, Served, Outcome, outcome}
use Rattle.lists.proofs.Rows.{length_map_from}

-- u has as many places as t, and the same hub
pub record AsLong (t u : Table) : Type 0 where
  pub connections : length u.connections ≡ length t.connections
  pub ids : length u.ids ≡ length t.ids
  pub functions : length u.functions ≡ length t.functions
  pub jobs : length u.jobs ≡ length t.jobs
  pub hub : u.hub ≡ t.hub

long_then : {t u v : Table} → AsLong t u → AsLong u v → AsLong t v
long_then a b = record { connections = b.connections ∙ a.connections; ids = b.ids ∙ a.ids; functions = b.functions ∙ a.functions; jobs = b.jobs ∙ a.jobs; hub = b.hub ∙ a.hub }

-- ---- one list anew

module _ (t : Table) where
  long_same : AsLong t t
  long_same = record { connections = refl; ids = refl; functions = refl; jobs = refl; hub = refl }

  long_connection : (c : ℕ) (x : Connection) → AsLong t (set_connection t c x)
  long_connection c x = record { connections = length-set t.connections c x; ids = refl; functions = refl; jobs = refl; hub = refl }

  long_id : (c : ℕ) (i : Bytes) → AsLong t (set_id t c i)
  long_id c i = record { connections = refl; ids = length-set t.ids c i; functions = refl; jobs = refl; hub = refl }

  long_function : (q : ℕ) (x : Function) → AsLong t (set_function t q x)
  long_function q x = record { connections = refl; ids = refl; functions = length-set t.functions q x; jobs = refl; hub = refl }

  long_job : (p : ℕ) (j : Job) → AsLong t (set_job t p j)
  long_job p j = record { connections = refl; ids = refl; functions = refl; jobs = length-set t.jobs p j; hub = refl }

  long_unable : (c : ℕ) → AsLong t (unable_to_all c t)
  unfolding unable_to_all
  long_unable c = record { connections = refl; ids = refl; functions = length-map t.functions (unable c); jobs = refl; hub = refl }

  long_left : (c : ℕ) → AsLong t (with_jobs (map (left_by c) t.jobs) t)
  long_left c = record { connections = refl; ids = refl; functions = refl; jobs = length-map t.jobs (left_by c); hub = refl }

  long_last : {u : Table} {s : ℕ} → AsLong t u → AsLong t (with_last_serial s u)
  long_last a = record { connections = a.connections; ids = a.ids; functions = a.functions; jobs = a.jobs; hub = a.hub }

pub long_settle : (ss : List Send) (t : Table) → AsLong t (settle ss t).table
unfolding settle dropped woken_in forgot
long_settle ss t = record { connections = length_map_from _ 0 t.connections; ids = refl; functions = length_map_from _ 0 t.functions; jobs = length-map t.jobs unless_lost; hub = refl }

-- ---- every event

pub long_change : (c : ℕ) (t : Table) {a : Request} {ss : List Send} {u : Table} → Change c t a ss u → AsLong t u
unfolding sleeping
long_change c t (Change.able f q e) = long_function t q _
long_change c t (Change.unknown f e) = long_same t
long_change c t (Change.disabled f q e) = long_function t q _
long_change c t (Change.identified i) = long_id t c i
long_change c t Change.cleared = long_unable t c
long_change c t Change.slept = long_connection t c _
long_change c t (Change.no_job_for uniq e) = long_connection t c _
long_change c t (Change.grabbed uniq p e) = long_then (long_connection t c _) (long_job (sleeping false c t) p _)
long_change c t (Change.joins priority background f v size p e) = long_job t p _
long_change c t (Change.accepts priority background f v size q p e₁ e₂ e₃ l) = long_then (long_function t q (with_name f (function_at t q))) (long_last _ (long_job (set_function t q (with_name f (function_at t q))) p _))
long_change c t (Change.worker how kind h n d p e) = long_job t p _
long_change c t (Change.status h o e) = long_same t
long_change c t (Change.optioned name e) = long_connection t c _
long_change c t Change.echoed = long_same t

long_served : (c : ℕ) (t : Table) {a : Request} {d : Decision} → Served c t a d → AsLong t d.table
unfolding refuse
long_served c t (Served.refused a n r) = long_same t
long_served c t (Served.done a ss u m) = long_then (long_change c t m) (long_settle ss u)

pub long_outcome : (t : Table) {e : Event} {d : Decision} → Outcome t e d → AsLong t d.table
unfolding silence opening closing unable_to_all
long_outcome t (Outcome.silenced e n r) = long_same t
long_outcome t (Outcome.opened c o) = long_then (long_connection t c _) (long_settle [] (opening c t))
long_outcome t (Outcome.closed c o) =
    let t₁ = set_id (set_connection t c closed) c [] in
    let a : AsLong t t₁ = long_then (long_connection t c closed) (long_id (set_connection t c closed) c []) in
    let b : AsLong t₁ (closing c t) = long_then (long_unable t₁ c) (long_left (unable_to_all c t₁) c) in
    long_then (long_then a b) (long_settle [] (closing c t))
long_outcome t (Outcome.serves c b d o r) = long_served c t r

pub long_decided : (e : Event) (s : Server) → AsLong s.table (decided e s).table
long_decided e s = long_outcome s.table (outcome e s)

-- ---- the name of the hub: 02, ask 5, "it stands in the table"

pub hub_kept : (e : Event) (s : Server) → (next e s).table.hub ≡ s.table.hub
unfolding next
hub_kept e s = (long_decided e s).hub

pub hub_after : (es : List Event) (s : Server) → (after s es).table.hub ≡ s.table.hub
unfolding after
hub_after [] s = refl
hub_after (e ∷ es) s = hub_after es (next e s) ∙ hub_kept e s

-- ---- workloads

abbrev pub Whole : Bytes → Type 0
Whole w = length w ≡ 1024

pub whole_place : (j k : JobRow) (o w : Bytes) → Whole w → Whole (reworked j k o w)
whole_place j k o w e =
    cond_both Whole (eqb j.serial k.serial) e (cond_both Whole (live k) (length_fit 1024 o) (length-replicate {A = ℕ} 1024 0))

whole_rework : (js ks : List Job) (o : Bytes) {ws : List Bytes} → All Whole ws → All Whole (rework js ks o ws)
whole_rework [] ks o e = e
whole_rework (j ∷ js) [] o e = e
whole_rework (j ∷ js) (k ∷ ks) o All.none = All.none
whole_rework (j ∷ js) (k ∷ ks) o (All.more e es) = All.more (whole_place j.row k.row o _ e) (whole_rework js ks o es)

length_rework : (js ks : List Job) (o : Bytes) (ws : List Bytes) → length (rework js ks o ws) ≡ length ws
length_rework [] ks o ws = refl
length_rework (j ∷ js) [] o ws = refl
length_rework (j ∷ js) (k ∷ ks) o [] = refl
length_rework (j ∷ js) (k ∷ ks) o (w ∷ ws) = ap suc (length_rework js ks o ws)

-- ---- servers

-- 01: "Connections 0 to 15; known functions 16; unfinished jobs 32", here for n connections; "32 places of 1,024"
pub record Shaped (n : ℕ) (s : Server) : Type 0 where
  pub connections : length s.table.connections ≡ n
  pub ids : length s.table.ids ≡ n
  pub functions : length s.table.functions ≡ 16
  pub jobs : length s.table.jobs ≡ 32
  pub workloads : length s.workloads ≡ 32
  pub whole : All Whole s.workloads

pub shaped_kept : (n : ℕ) (e : Event) (s : Server) → Shaped n s → Shaped n (next e s)
unfolding next
shaped_kept n e s h =
    let l = long_decided e s in
    record {
      connections = l.connections ∙ h.connections;
      ids = l.ids ∙ h.ids;
      functions = l.functions ∙ h.functions;
      jobs = l.jobs ∙ h.jobs;
      workloads = length_rework s.table.jobs _ (opaque_of e) s.workloads ∙ h.workloads;
      whole = whole_rework s.table.jobs _ (opaque_of e) h.whole;
    }
