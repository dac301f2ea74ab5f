-- Sentences of document 01 that the end of an event says in another form, word for word, for a table that obeys the rules:
-- "PRE_SLEEP with a grabbable job answers NOOP and doesn't sleep", and which jobs are dropped at a close. Assumes nothing.
use Prim.Native.Nat.{ℕ, zero, suc, ◌+◌, ◌<◌, ◌≤◌}
use mathlib.Core.Path.{◌≡◌, refl, ap, sym, ◌∙◌}
use mathlib.Core.Logic.{◌≢◌}
use mathlib.Core.Bool.{Bool, true, false, not, cond, ◌&&◌, ◌||◌}
use mathlib.Core.List.{List, [], ◌∷◌}
use native.Mathlib.Decide.{ℕ_discrete}
use native.Mathlib.Omega.{arith}
use borrow.Author.Tests.{eq-eqb, ne_eqb}
use lib.ListN.{length, set, length-set}
use lib.Seq.{get_or-set_same, get_or-set_other, ext_get_or}
use lib.Dec.{eqb}
use Rattle.octets.proofs.Strings.{and_left, and_both}
use Rattle.sets.specs.Sets.{is_empty, remove}
use Rattle.server.specs.declared.Connection.{Connection}
use Rattle.server.specs.declared.JobRow.{JobRow}
use Rattle.lists.specs.Lists.{any, filter, numbers}
use Rattle.server.specs.Table.{Job, Table, closed, no_job, connection_at, job_at, rows_of, ables_of, live, queued, held_by, grabbable, with_connections, with_asleep}
use Rattle.server.specs.Requests.{pre_sleep}
use Rattle.server.specs.Events.{settle, lost, unless_lost, wakes, woken_in, woken, to_wake_in, to_wake, noop, closing, left_by, sleeping, served}
use Rattle.server.specs.Rules.{sleeper_idle, obeys}
use Rattle.lists.proofs.Cases.{cond_cases}
use Rattle.lists.proofs.Rows.{clash, never, or_right, length_map_from}
use Rattle.server_laws.proofs.Places.{settled_at}
use Rattle.server_laws.proofs.Closing.{left_at}
use Rattle.server_laws.proofs.Settled.{rouse, woken_at, idle_by}
use Rattle.server_laws.proofs.Obeyed.{obeyed}
use Rattle.server_laws.proofs.AtRest.{drops_none, sleeps_on, idle_at, choose_same, forgets_none, done, settle_idle}

-- connection c has a grabbable job
abbrev pub has_work : Table → ℕ → Bool
has_work t c = any (grabbable (ables_of t) c) (rows_of t)

-- ---- PRE_SLEEP

choose_past : (c i n : ℕ) → c < i → filter (λ k. eqb k c) (numbers i n) ≡ []
choose_past c i zero l = refl
choose_past c i (suc n) l = rw (ne_eqb i c (λ (e : i ≡ c). omega arith)) (choose_past c (suc i) n (omega arith))

-- one number among those from i on
pub choose_one : (c i n : ℕ) → i ≤ c → c < i + n → filter (λ k. eqb k c) (numbers i n) ≡ c ∷ []
choose_one c i zero l m = absurd (omega arith)
choose_one c i (suc n) l m = go (ℕ_discrete i c) (choose_one c (suc i) n)
  where
    go : Dec (i ≡ c) → (suc i ≤ c → c < suc i + n → filter (λ k. eqb k c) (numbers (suc i) n) ≡ c ∷ []) → filter (λ k. eqb k c) (numbers i (suc n)) ≡ c ∷ []
    go (yes e) r = rw (eq-eqb i c e, choose_past c (suc i) n (omega arith), e)
    go (no d) r = rw (ne_eqb i c d) (r (omega arith) (omega arith))

module _ (t : Table) (c : ℕ) (inside : c < length t.connections) (h : obeys t ≡ true) where
  -- the table once the connection has been put to sleep, before it is settled
  abbrev asked : Table
  asked = sleeping true c t

  abbrev sleeper : Connection
  sleeper = with_asleep true (connection_at t c)

  at_asker : connection_at asked c ≡ sleeper
  unfolding sleeping
  at_asker = get_or-set_same t.connections c sleeper closed inside

  at_other : (k : ℕ) → k ≢ c → connection_at asked k ≡ connection_at t k
  unfolding sleeping
  at_other k d = get_or-set_other t.connections c k sleeper closed d

  -- without a grabbable job it sleeps, and nothing is sent
  pub presleep_sleeps : has_work t c ≡ false → served c pre_sleep t ≡ done [] (sleeping true c t)
  unfolding served sleeping
  presleep_sleeps e = settle_idle [] asked (obeyed t h).defined (obeyed t h).awaited (idle_by asked (λ k l. go k (rw length-set at l) (ℕ_discrete k c)))
    where
      go : (k : ℕ) → k < length t.connections → Dec (k ≡ c) → sleeper_idle t k (connection_at asked k) ≡ true
      go k l (yes i) = rw (i, at_asker) (ap not e)
      go k l (no d) = rw (at_other k d) (idle_at t (obeyed t h).idle k l)

  -- with one it is sent NOOP, does not sleep, and the table stays as it was
  module _ (w : has_work t c ≡ true) where
    was_awake : (connection_at t c).asleep ≡ false
    was_awake = never _ (λ e. clash (and_both (connection_at t c).asleep _ e w) (sleeps_on t (obeyed t h).idle c inside))

    only_asker : (k : ℕ) → k < length t.connections → Dec (k ≡ c) → wakes (ables_of t) (rows_of t) k (connection_at asked k) ≡ eqb k c
    only_asker k l (yes i) = rw (i, at_asker) (w ∙ sym (eq-eqb c c refl))
    only_asker k l (no d) = rw (at_other k d, ne_eqb k c d) (sleeps_on t (obeyed t h).idle k l)

    wakes_asker : to_wake asked ≡ c ∷ []
    unfolding to_wake_in sleeping
    wakes_asker =
        choose_same _ (λ k. eqb k c) (length (set t.connections c sleeper)) (λ k l. only_asker k (rw length-set at l) (ℕ_discrete k c))
        ∙ choose_one c 0 (length (set t.connections c sleeper)) (omega arith) (rw length-set (omega arith))

    row_again : (k : ℕ) → k < length t.connections → Dec (k ≡ c) → rouse asked k (connection_at asked k) ≡ connection_at t k
    unfolding sleeping
    row_again k l (yes i) = rw (i, at_asker, w) (λ x. with_asleep (sym was_awake x) (connection_at t c))
    row_again k l (no d) = rw (at_other k d, sleeps_on t (obeyed t h).idle k l)

    as_before : woken asked ≡ t
    unfolding woken_in sleeping
    as_before =
        ap (λ (cs : List Connection). with_connections cs t)
        (ext_get_or closed (woken asked).connections t.connections long (λ k l. woken_at asked k ∙ row_again k (rw long at l) (ℕ_discrete k c)))
      where
        long : length (woken asked).connections ≡ length t.connections
        long = length_map_from (rouse asked) 0 (set t.connections c sleeper) ∙ length-set t.connections c sleeper

    pub presleep_noop : served c pre_sleep t ≡ done (noop c ∷ []) t
    unfolding served settle sleeping
    presleep_noop = rw (drops_none asked (obeyed t h).awaited, wakes_asker, as_before, forgets_none t (obeyed t h).defined)

-- ---- close

-- the job is in the queue, or comes back to it when connection c closes
abbrev pub waits_after : ℕ → JobRow → Bool
waits_after c r = queued r || held_by c r

-- no listener is left when connection c closes, and it is not background
abbrev pub unheard : ℕ → JobRow → Bool
unheard c r = not r.background && is_empty (remove r.listeners c)

or_none_lem : (a b : Bool) → b ≡ false → a ≡ a || b
or_none_lem true b e = refl
or_none_lem false b e = sym e

left_lost : (c : ℕ) (j : Job) → lost (left_by c j).row ≡ waits_after c j.row && unheard c j.row
left_lost c j =
    cond_cases (λ (k : Job). lost k.row ≡ waits_after c j.row && unheard c j.row) (held_by c j.row)
    (λ e. ap (λ (b : Bool). b && unheard c j.row) (and_both (live j.row) true (and_left (live j.row) _ e) refl ∙ sym (or_right (queued j.row) (held_by c j.row) e)))
    (λ e. ap (λ (b : Bool). b && unheard c j.row) (or_none_lem (queued j.row) (held_by c j.row) e))

-- dropped is exactly a job that would wait with no listener left and not in the background; any other stays, without connection c
pub close_drops : (c : ℕ) (t : Table) (i : ℕ) → job_at (settle [] (closing c t)).table i ≡ cond (waits_after c (job_at t i).row && unheard c (job_at t i).row) no_job (left_by c (job_at t i))
unfolding closing
close_drops c t i =
    settled_at [] (closing c t) i
    ∙ ap unless_lost (left_at c t.jobs i)
    ∙ ap (λ (b : Bool). cond b no_job (left_by c (job_at t i))) (left_lost c (job_at t i))
