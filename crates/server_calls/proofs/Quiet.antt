-- A worker packet wakes nobody: what it does to its job makes no job grabbable, and in a table that obeys the rules no sleeper had
-- one. Assumes nothing.
use Prim.Native.Nat.{ℕ}
use mathlib.Core.Path.{◌≡◌, refl, ◌∙◌}
use mathlib.Core.Bool.{Bool, true, false, ◌&&◌, ◌||◌}
use mathlib.Core.List.{List, [], map}
use lib.ListN.{length, set}
use Rattle.octets.specs.Bytes.{Bytes}
use Rattle.lists.specs.Lists.{any}
use Rattle.server.specs.Table.{Job, Table, no_job, connection_at, job_at, rows_of, ables_of, set_job, grabbable}
use Rattle.server.specs.Requests.{Work, tells, reports, ends, throws}
use Rattle.server.specs.Events.{lost, unless_lost, dropped, wakes, to_wake_in, to_wake, worked}
use Rattle.server.specs.Rules.{sleepers_idle}
use Rattle.lists.proofs.Cases.{All2, all2_set, all2_map, all2_trans, cond_both}
use Rattle.lists.proofs.Rows.{clash, or_left, or_right}
use Rattle.server_laws.proofs.AtRest.{sleeps_on, choose_same, choose_none}

-- k is grabbable only if j was
abbrev pub NoMore : Job → Job → Type 0
NoMore j k = (ables : List ℕ) (c : ℕ) → grabbable ables c k.row ≡ true → grabbable ables c j.row ≡ true

no_more_same : (j : Job) → NoMore j j
no_more_same j ables c e = e

no_more_none : (j : Job) → NoMore j no_job
no_more_none j ables c e = clash e refl

no_more_worked : (how : Work) (n d : Bytes) (j : Job) → NoMore j (worked how n d j)
no_more_worked tells n d j = no_more_same j
no_more_worked reports n d j = no_more_same j
no_more_worked ends n d j = no_more_none j
no_more_worked throws n d j = no_more_none j

no_more_dropped : (j : Job) → NoMore j (unless_lost j)
no_more_dropped j = cond_both (NoMore j) (lost j.row) (no_more_none j) (no_more_same j)

or_either : (a b x y : Bool) → (a ≡ true → x ≡ true) → (b ≡ true → y ≡ true) → a || b ≡ true → x || y ≡ true
or_either true b x y f g e = or_left x y (f refl)
or_either false b x y f g e = or_right x y (g e)

no_more_any : {js ks : List Job} → All2 NoMore js ks → (ables : List ℕ) (c : ℕ)
    → any (grabbable ables c) (map (λ k. k.row) ks) ≡ true → any (grabbable ables c) (map (λ j. j.row) js) ≡ true
no_more_any All2.none ables c e = e
no_more_any (All2.more {a = j} {b = k} r rs) ables c e = or_either (grabbable ables c k.row) _ (grabbable ables c j.row) _ (r ables c) (no_more_any rs ables c) e

still_asleep : (a : Bool) (p q : Bool) → (q ≡ true → p ≡ true) → a && p ≡ false → a && q ≡ false
still_asleep true p true h e = clash (h refl) e
still_asleep true p false h e = refl
still_asleep false p q h e = refl

-- with no more jobs to grab, nobody is woken
pub none_woken : (t u : Table) → u.connections ≡ t.connections → u.functions ≡ t.functions → All2 NoMore t.jobs u.jobs → sleepers_idle t ≡ true → to_wake u ≡ []
unfolding to_wake_in
none_woken t u ec ef r i =
    rw (ec, ef)
    (choose_same (λ c. wakes (ables_of t) (rows_of u) c (connection_at t c)) (λ c. false) (length t.connections)
    (λ c l. still_asleep (connection_at t c).asleep _ _ (no_more_any r (ables_of t) c) (sleeps_on t i c l))
    ∙ choose_none 0 (length t.connections))

pub worker_wakes_nobody : (t : Table) (p : ℕ) (how : Work) (n d : Bytes) → sleepers_idle t ≡ true → to_wake (dropped (set_job t p (worked how n d (job_at t p)))) ≡ []
unfolding dropped
worker_wakes_nobody t p how n d i =
    let y = worked how n d (job_at t p) in
    none_woken t (dropped (set_job t p y)) refl refl
    (all2_trans {R = NoMore} {S = NoMore} {U = NoMore} (λ a b c f g ables x e. f ables x (g ables x e))
    (all2_set NoMore no_more_same t.jobs p no_job y (no_more_worked how n d (job_at t p)))
    (all2_map NoMore unless_lost no_more_dropped (set t.jobs p y)))
    i
