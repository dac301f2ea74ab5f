-- 01: "CAN_DO by a sleeper with such a job answers NOOP and wakes it. [..] Giving up an ability leaves held jobs. Requests with no
-- packet named here or in document 000 send none." For a table that obeys the rules. Assumes nothing.
use Prim.Native.Nat.{ℕ, ◌<◌}
use mathlib.Core.Path.{◌≡◌, refl, ap, sym, ◌∙◌}
use mathlib.Core.Logic.{◌≢◌}
use mathlib.Core.Bool.{true, false, not, ◌&&◌}
use Rattle.std.specs.Prelude.{Option, Some, None}
use mathlib.Core.List.{List, [], ◌∷◌, map}
use native.Mathlib.Decide.{ℕ_discrete}
use native.Mathlib.Omega.{arith}
use borrow.Author.Tests.{eq-eqb, ne_eqb, eqb-true}
use lib.ListN.{length}
use lib.Seq.{get_or-set_same, get_or-set_other}
use lib.Dec.{eqb}
use Rattle.octets.specs.Bytes.{Bytes}
use Rattle.octets.proofs.Strings.{and_left, and_right, and_both}
use Rattle.sets.specs.Sets.{has}
use Rattle.sets.proofs.Laws.{has_insert_same, has_insert_other, has_remove_same, has_remove_other}
use Rattle.lists.specs.Lists.{any}
use Rattle.server.specs.Table.{Function, Table, no_function, connection_at, function_at, job_at, rows_of, ables_of, set_function, queued, able, grabbable, known, room_for, with_functions}
use Rattle.server.specs.Requests.{can_do, cant_do, reset}
use Rattle.server.specs.Events.{settle, wakes, to_wake_in, to_wake, forgot, noop, able_to, unable, can_do_at, cant_do_at, unable_to_all, served}
use Rattle.server.specs.Rules.{sleeper_idle, obeys}
use Rattle.lists.proofs.Cases.{All2, all2_set, all2_map, all2_at}
use Rattle.lists.proofs.Rows.{clash, implies_by, never, iff}
use Rattle.server_laws.proofs.Numbers.{able_at_lem, row_passes, row_where}
use Rattle.server_laws.proofs.Functions.{room}
use Rattle.server_laws.proofs.Settled.{woken_at, idle_by}
use Rattle.server_laws.proofs.Obeyed.{obeyed}
use Rattle.server_laws.proofs.AtRest.{drops_none, sleeps_on, choose_same}
use Rattle.server_laws.proofs.Words.{choose_one, has_work}
use Rattle.server_words.proofs.Quiet.{Quiet, quiet, NoMore, idle_kept, work_from}

-- ---- CAN_DO

module _ (t : Table) (c : ℕ) (inside : c < length t.connections) (f : Bytes) (q : ℕ) (here : room_for t.functions f ≡ Some q) (h : obeys t ≡ true) where
  -- the table with the ability, before it is settled
  abbrev pub enabled : Table
  enabled = set_function t q (able_to c f (function_at t q))

  -- the function at this place as it is then
  at_place : function_at enabled q ≡ able_to c f (function_at t q)
  at_place = get_or-set_same t.functions q (able_to c f (function_at t q)) no_function (room t f q here).inside

  at_other : (x : ℕ) → x ≢ q → function_at enabled x ≡ function_at t x
  at_other x d = get_or-set_other t.functions q x (able_to c f (function_at t q)) no_function d

  -- of the others nobody can do more
  others_able : (k x : ℕ) → k ≢ c → Dec (x ≡ q) → able (ables_of enabled) x k ≡ able (ables_of t) x k
  others_able k x d (yes e) = rw (able_at_lem enabled x, able_at_lem t x, e, at_place) (has_insert_other (function_at t q).able c k d)
  others_able k x d (no n) = rw (able_at_lem enabled x, able_at_lem t x) (ap (λ (y : Function). has y.able k) (at_other x n))

  others_work : (k : ℕ) → k ≢ c → has_work enabled k ≡ true → has_work t k ≡ true
  others_work k d =
      work_from t enabled k refl
      (λ i e. and_both (queued (job_at t i).row) _ (and_left (queued (job_at t i).row) _ e)
      (sym (others_able k (job_at t i).row.function d (ℕ_discrete (job_at t i).row.function q)) ∙ and_right (queued (job_at t i).row) _ e))

  others_sleep : (k : ℕ) → k < length t.connections → k ≢ c → wakes (ables_of enabled) (rows_of t) k (connection_at t k) ≡ false
  others_sleep k l d =
      never _ (λ e. clash (and_both (connection_at t k).asleep _ (and_left (connection_at t k).asleep _ e) (others_work k d (and_right (connection_at t k).asleep _ e))) (sleeps_on t (obeyed t h).idle k l))

  can_do_is : served c (can_do f) t ≡ settle [] enabled
  unfolding served can_do_at
  can_do_is = rw here

  -- an awake connection, or a sleeper without a grabbable job: nothing is sent, and nothing changes but the ability
  can_do_quiet : (connection_at t c).asleep && has_work enabled c ≡ false → Quiet [] enabled (served c (can_do f) t)
  can_do_quiet e =
      rw can_do_is
      (quiet [] enabled (obeyed t h).awaited (idle_by enabled (λ k l. idle k l (ℕ_discrete k c))))
    where
      idle : (k : ℕ) → k < length t.connections → Dec (k ≡ c) → sleeper_idle enabled k (connection_at t k) ≡ true
      idle k l (yes i) = rw i (implies_by (connection_at t c).asleep _ (λ a. ap not (never _ (λ w. clash (and_both (connection_at t c).asleep _ a w) e))))
      idle k l (no d) = implies_by (connection_at t k).asleep _ (λ a. ap not (never _ (λ w. clash (and_both (connection_at t k).asleep _ a w) (others_sleep k l d))))

  pub can_do_awake : (connection_at t c).asleep ≡ false → Quiet [] enabled (served c (can_do f) t)
  can_do_awake a = can_do_quiet (rw a)

  -- it sleeps on
  pub can_do_sleeps : (connection_at t c).asleep ≡ true → has_work enabled c ≡ false → Quiet [] enabled (served c (can_do f) t)
  can_do_sleeps a w = can_do_quiet (rw a w)

  -- a sleeper with a grabbable job: NOOP goes to it, and it is awake
  module _ (asleep : (connection_at t c).asleep ≡ true) (w : has_work enabled c ≡ true) where
    wakes_it : to_wake enabled ≡ c ∷ []
    unfolding to_wake_in
    wakes_it = choose_same _ (λ k. eqb k c) (length t.connections) (λ k l. only k l (ℕ_discrete k c)) ∙ choose_one c 0 (length t.connections) (omega arith) (omega arith)
      where
        only : (k : ℕ) → k < length t.connections → Dec (k ≡ c) → wakes (ables_of enabled) (rows_of t) k (connection_at t k) ≡ eqb k c
        only k l (yes i) = rw (i, asleep) (w ∙ sym (eq-eqb c c refl))
        only k l (no d) = others_sleep k l d ∙ sym (ne_eqb k c d)

    pub can_do_wakes : (served c (can_do f) t).packets ≡ noop c ∷ []
    unfolding settle
    can_do_wakes = rw (can_do_is, drops_none enabled (obeyed t h).awaited, wakes_it)

    pub can_do_woken : (connection_at (served c (can_do f) t).table c).asleep ≡ false
    unfolding settle forgot
    can_do_woken =
        rw (can_do_is, drops_none enabled (obeyed t h).awaited, woken_at enabled c, asleep, w)

  -- which jobs a sleeper has then: the queued ones of that function
  pub sleeper_work : (connection_at t c).asleep ≡ true → has_work enabled c ≡ any (λ r. queued r && eqb r.function q) (rows_of t)
  sleeper_work asleep = iff _ _ there back
    where
      named : (i : ℕ) → i < length t.jobs → Dec ((job_at t i).row.function ≡ q) → grabbable (ables_of enabled) c (job_at t i).row ≡ true → eqb (job_at t i).row.function q ≡ true
      named i l (yes e) g = eq-eqb _ q e
      named i l (no d) g =
          let a : able (ables_of t) (job_at t i).row.function c ≡ true = rw (able_at_lem t (job_at t i).row.function, ← (at_other _ d), ← (able_at_lem enabled (job_at t i).row.function)) (and_right (queued (job_at t i).row) _ g) in
          let b = row_passes t (grabbable (ables_of t) c) i l (and_both (queued (job_at t i).row) _ (and_left (queued (job_at t i).row) _ g) a) in
          clash (and_both (connection_at t c).asleep _ asleep b) (sleeps_on t (obeyed t h).idle c inside)

      there : has_work enabled c ≡ true → any (λ r. queued r && eqb r.function q) (rows_of t) ≡ true
      there e =
          let (i, l, g) = row_where t (grabbable (ables_of enabled) c) e in
          row_passes t (λ r. queued r && eqb r.function q) i l
          (and_both (queued (job_at t i).row) _ (and_left (queued (job_at t i).row) _ g) (named i l (ℕ_discrete _ q) g))

      back : any (λ r. queued r && eqb r.function q) (rows_of t) ≡ true → has_work enabled c ≡ true
      back e =
          let (i, l, g) = row_where t (λ r. queued r && eqb r.function q) e in
          let z : (job_at t i).row.function ≡ q = eqb-true _ q (and_right (queued (job_at t i).row) _ g) in
          row_passes t (grabbable (ables_of enabled) c) i l
          (and_both (queued (job_at t i).row) _ (and_left (queued (job_at t i).row) _ g) (rw (z, able_at_lem enabled q, at_place) (has_insert_same (function_at t q).able c)))

-- ---- CANT_DO, RESET_ABILITIES

-- whoever can do the second can do the first
abbrev Weaker : Function → Function → Type 0
Weaker x y = (k : ℕ) → has y.able k ≡ true → has x.able k ≡ true

unable_weaker : (c : ℕ) (x : Function) → Weaker x (unable c x)
unable_weaker c x k e = go (ℕ_discrete k c)
  where
    go : Dec (k ≡ c) → has x.able k ≡ true
    go (yes i) = clash (rw i at e) (has_remove_same x.able c)
    go (no d) = sym (has_remove_other x.able c k d) ∙ e

module _ (t : Table) (c : ℕ) (h : obeys t ≡ true) where
  -- fewer abilities: nothing is sent, and connections and jobs stay as they are, so held jobs and sleep too
  weaker_quiet : (fs : List Function) → All2 Weaker t.functions fs
      → Quiet [] t (settle [] (with_functions fs t))
  weaker_quiet fs r =
      let u = with_functions fs t in
      let m : NoMore t u = record {
        long = refl;
        asleep = λ k e. e;
        grabs = λ k. work_from t u k refl (λ i e. and_both (queued (job_at t i).row) _ (and_left (queued (job_at t i).row) _ e)
            (rw (able_at_lem t (job_at t i).row.function) (all2_at {R = Weaker} r (job_at t i).row.function no_function no_function (λ x z. z) k
            (rw (able_at_lem u (job_at t i).row.function) at (and_right (queued (job_at t i).row) _ e)))));
      } in
      let z = quiet [] u (obeyed t h).awaited (idle_kept t u m (obeyed t h).idle) in
      record { number = z.number; packets = z.packets; connections = z.connections; jobs = z.jobs; last = z.last }

  pub cant_do_keeps : (f : Bytes) → Quiet [] t (served c (cant_do f) t)
  unfolding served cant_do_at
  cant_do_keeps f = go (known t.functions f)
    where
      go : (o : Option ℕ) → Quiet [] t (cant_do_at o c t)
      go None = quiet [] t (obeyed t h).awaited (obeyed t h).idle
      go (Some q) = weaker_quiet _ (all2_set Weaker (λ x k e. e) t.functions q no_function (unable c (function_at t q)) (unable_weaker c (function_at t q)))

  pub reset_keeps : Quiet [] t (served c reset t)
  unfolding served unable_to_all
  reset_keeps = weaker_quiet (map (unable c) t.functions) (all2_map Weaker (unable c) (unable_weaker c) t.functions)
