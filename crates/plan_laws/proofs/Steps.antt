-- For each event: its step, and the ending computed from the numbers before it, are all that the event leaves. The final table is the
-- one that both leave, the connections that wake are the ending's, and no job is dropped. Assumes nothing.
use Prim.Native.Nat.{ℕ, zero, suc, ◌<◌, zero-le}
use mathlib.Core.Path.{◌≡◌, refl, ap, ap₂, sym, ◌∙◌, subst}
use mathlib.Core.Bool.{Bool, true, false, not, cond, ◌&&◌, ◌||◌}
use Rattle.std.specs.Prelude.{Option, Some, None}
use mathlib.Core.List.{List, [], ◌∷◌}
use native.Mathlib.Decide.{ℕ_discrete}
use borrow.Author.Tests.{not-true, eq-eqb, ne_eqb}
use lib.ListN.{length, get_or, set, length-set}
use lib.Seq.{get_or-set_same, get_or-set_other, map-set_same}
use lib.Dec.{eqb, eqb-suc-zero}
use Rattle.octets.specs.Bytes.{Bytes, same}
use Rattle.octets.proofs.Strings.{and_left, and_right, and_both, and_false}
use Rattle.sets.specs.Sets.{has, is_empty, insert, remove, members}
use Rattle.sets.proofs.Laws.{has_only}
use Rattle.lists.specs.Lists.{any, implies}
use Rattle.lists.proofs.Cases.{cond_both}
use Rattle.lists.proofs.Maps.{map_set, any_set_same}
use Rattle.lists.proofs.Rows.{clash, or_right, set_own, all_row, all_at, all_set, row_set}
use Rattle.server.proofs.Rows.{in_range}
use Rattle.lists.proofs.Searches.{found}
use Rattle.server.specs.declared.Connection.{Connection}
use Rattle.server.specs.declared.JobRow.{JobRow}
use Rattle.server.specs.Table.{Function, Job, Table, closed, no_job, no_row, no_function, connection_at, function_at, job_at, rows_of, ables_of, set_connection, set_id, set_function, set_job, with_row, with_texts, with_holder, live, queued, names, wanted, able, grabbable, room_for, best, free_row, free_place, joined, with_last_serial, with_functions, with_jobs, just_opened, with_name, with_able, fresh_row, unstarted}
use Rattle.server.specs.Requests.{Work, Request}
use Rattle.server.specs.Events.{Send, Decision, dropped, new_job, accepted, submitted_by, holds_handle, to_wake_in, held_job_of}
use Rattle.server.specs.Rules.{row_has_meaning, obeys}
use Rattle.server_laws.proofs.Numbers.{row_at, able_at_lem, rows_long, row_passes}
use Rattle.server_laws.proofs.Obeyed.{Obeyed, obeyed}
use Rattle.server_laws.proofs.Sound.{row_means}
use Rattle.server_laws.proofs.AtRest.{drops_none}
use Rattle.server_laws.proofs.Functions.{room}
use Rattle.server_laws.proofs.Going.{best_found, grabbed_live, joined_found, held_found}
use Rattle.server_laws.proofs.Accepting.{Kept, submitted_keeps, submitted_awaited}
use Rattle.server_laws.proofs.Outcome.{Change, unknown, disabled, identified, cleared, slept, no_job_for, grabbed, joins, accepts, worker, status, optioned, echoed}
use Rattle.server_laws.proofs.Outcome as O
use Rattle.plan.specs.declared.Values as V'
use Rattle.plan.specs.declared.Plan.{Plan}
use Rattle.plan.specs.declared.Step as S'
use Rattle.plan.specs.declared.Step.TheVariants as SV
use Rattle.plan.specs.declared.Change.TheVariants as CV
use Rattle.plan.specs.declared.Order as O'
use Rattle.plan.specs.declared.Order.TheVariants as OV
use Rattle.plan.specs.Values.{values_of, with_last, with_ables, with_rows}
use Rattle.plan.specs.Settling.{dropped_rows}
use Rattle.plan.specs.Parts.{row_in, new_row, heard, changed, final_table}
use Rattle.plan.specs.Busy.{to_wake_set}
use Rattle.plan.specs.Steps.{stepped, is_lean, sparse, waits, ending, ended, Within, Lean}
use Rattle.plan.specs.Plans.{done, sleeping_row, plan_can_do, plan_cant_do, plan_grab, plan_join, plan_work, plan_status, plan_served, plan_opening, plan_closing}
use Rattle.plan.proofs.Numbers.{dropped_rows_lem, wake_values}
use Rattle.plan_settle.proofs.Sleepers.{has_if, has_to_wake}
use Rattle.plan_laws.proofs.Settled.{SameJob, SameTexts, settled_table}
use Rattle.plan_laws.proofs.Texts.{both_set, left_set, SameName, rowed_same, gone_same, live_same, own_texts}
use Rattle.plan_laws.proofs.Draws.{plan_of, Draws, refused, draws}
use Rattle.plan_laws.proofs.Decides.{Words, Says, that_tells, that_reports, that_ends, that_throws, Suits, for_can, for_submit, for_work}
use Rattle.plan_laws.proofs.Ends.{Settles, settles, wakes_members, all_kept, nothing_settles, job_settles, connection_settles, one_kept, one_rouses}

-- ---- what a step and its ending leave, by the table u between them

lean_by : (step : S'.Step) (t s u : Table) → values_of u ≡ stepped step (values_of t) → length u.connections ≡ length t.connections → SameTexts u s
    → Settles u (ending step (values_of t)) → u ≡ sparse step s → Within (length t.functions) (ending step (values_of t)).forgotten → Lean step t s
unfolding values_of dropped
lean_by step t s u e long texts r is within =
    record {
      leaves = ap (λ (v : V'.Values). final_table v s) (sym e) ∙ sym (settled_table u s texts) ∙ settles u (ending step (values_of t)) r ∙ ap (ended (ending step (values_of t))) is;
      wakes = ap (λ (v : V'.Values). to_wake_in v.able (dropped_rows v.rows) v.connections) (sym e) ∙ sym (wake_values u) ∙ wakes_members u (ending step (values_of t)) r
          ∙ ap (λ (n : ℕ). members n (ending step (values_of t)).woken) long;
      keeps = ap (λ (v : V'.Values). dropped_rows v.rows) (sym e) ∙ sym (dropped_rows_lem u.jobs) ∙ ap (λ (x : Table). rows_of x) (drops_none u r.awaited) ∙ ap (λ (v : V'.Values). v.rows) e;
      within = within;
    }

set_set : {A : Type 0} (l : List A) (i : ℕ) (x y : A) → set (set l i x) i y ≡ set l i y
set_set [] i x y = refl
set_set (z ∷ l) zero x y = refl
set_set (z ∷ l) (suc i) x y = ap (λ (r : List _). z ∷ r) (set_set l i x y)

-- a row of another function does not name this one
names_other : (q : ℕ) (r : JobRow) → ¬ (r.function ≡ q) → names q r ≡ false
names_other q r d = ap (λ (b : Bool). live r && b) (ne_eqb r.function q d) ∙ and_false (live r)

-- a submitter more: the job is as grabbable as before
submitted_grabbable : (c : ℕ) (b : Bool) (r : JobRow) (ables : List ℕ) (x : ℕ) → grabbable ables x (submitted_by c b r) ≡ grabbable ables x r
submitted_grabbable c true r ables x = refl
submitted_grabbable c false r ables x = refl

submitted_names : (c : ℕ) (b : Bool) (r : JobRow) (q : ℕ) → names q (submitted_by c b r) ≡ names q r
submitted_names c true r q = refl
submitted_names c false r q = refl

submitted_live : (c : ℕ) (b : Bool) (r : JobRow) → live (submitted_by c b r) ≡ live r
submitted_live c true r = refl
submitted_live c false r = refl

-- ---- each event

module _ (w : Words) (c : ℕ) (t : Table) (ok : obeys t ≡ true) where
  texts : SameTexts t t
  texts = own_texts t ok

  o : Obeyed t
  o = obeyed t ok

  -- a row put anew that names the same function
  names_same : (p q : ℕ) (r : JobRow) → names q r ≡ names q (job_at t p).row → any (names q) (set (rows_of t) p r) ≡ any (names q) (rows_of t)
  names_same p q r e = any_set_same (names q) (rows_of t) p r no_row (e ∙ ap (names q) (sym (row_at t p)))

  -- where its step is lean, the plan is carried out by it and its ending
  abbrev pub Leans : Plan → Type 0
  Leans b = is_lean b.step ≡ true → Lean b.step t (changed b.change w.first w.second w.third t)

  nothing_leans : (n : ℕ) (order : O'.Order) → Leans (record { number = n; step = SV.Nothing; change = CV.Nothing; order = order })
  unfolding stepped sparse changed ending
  nothing_leans n order l = lean_by SV.Nothing t t t refl refl texts (nothing_settles t o t.ids) refl zero-le

  id_leans : (order : O'.Order) → Leans (done SV.Nothing (CV.Id c) order)
  unfolding stepped sparse changed ending values_of
  id_leans order l =
      let u = set_id t c w.first in
      lean_by SV.Nothing t u u refl refl (record { ids = refl; hub = refl; functions = texts.functions; jobs = texts.jobs }) (nothing_settles t o u.ids) refl zero-le

  -- ---- sleep, grabs

  -- only the connection itself may wake
  flags_leans : (x : Connection) (order : O'.Order) → Leans (done (SV.Flags c x) CV.Nothing order)
  unfolding stepped sparse changed ending values_of
  flags_leans x order l =
      let b : Bool = x.asleep && any (grabbable (ables_of t) c) (rows_of t) in
      let only : (k : ℕ) → has (cond b (insert 0 c) 0) k ≡ b && eqb c k = λ k. has_if b (insert 0 c) k ∙ ap (λ (y : Bool). b && y) (has_only c k) in
      lean_by (SV.Flags c x) t t (set_connection t c x) refl (length-set t.connections c x) (record { ids = refl; hub = refl; functions = texts.functions; jobs = texts.jobs })
      (connection_settles t o c x (cond b (insert 0 c) 0)
      (sym (only c ∙ ap (λ (y : Bool). b && y) (eq-eqb c c refl) ∙ and_true b))
      (λ k d. only k ∙ ap (λ (y : Bool). b && y) (ne_eqb c k (λ (e : c ≡ k). d (sym e))) ∙ and_false b))
      refl zero-le
    where
      and_true : (b : Bool) → b && true ≡ b
      and_true true = refl
      and_true false = refl

  held_leans : (p : ℕ) → best t c ≡ Some p → Lean (SV.Grab p (with_holder (suc c) (row_in (values_of t) p)) c (sleeping_row false c (values_of t))) t t
  unfolding stepped sparse ending values_of
  held_leans p e =
      let r : JobRow = with_holder (suc c) (job_at t p).row in
      let k : Job = with_row r (job_at t p) in
      let x : Connection = sleeping_row false c (values_of t) in
      let u : Table = set_connection t c x in
      subst (λ (y : JobRow). Lean (SV.Grab p (with_holder (suc c) y) c x) t t) (sym (row_at t p))
      (lean_by (SV.Grab p r c x) t t (set_job u p k)
      (ap (λ (l : List JobRow). with_rows l (values_of u)) (map_set (λ (j : Job). j.row) t.jobs p k))
      (length-set t.connections c x)
      (record { ids = refl; hub = refl; functions = texts.functions; jobs = left_set SameJob p no_job k (rowed_same (job_at t p) r (grabbed_live t c p e)) texts.jobs })
      (job_settles t o (set t.connections c x) p k None (length-set t.connections c x)
      (λ i. row_set (λ (y : Connection). y.asleep ≡ true → (connection_at t i).asleep ≡ true) t.connections c x i closed (λ s. clash s refl) (λ s. s))
      (best_found t c p e).0
      (λ ables y g. clash (and_right (live (job_at t p).row) _ (and_left (live (job_at t p).row && eqb (suc c) 0) _ g)) (eqb-suc-zero c))
      (ap (λ (b : Bool). implies (live (job_at t p).row && b) (r.background || not (is_empty r.listeners))) (eqb-suc-zero c)
      ∙ ap (λ (b : Bool). implies b (r.background || not (is_empty r.listeners))) (and_false (live (job_at t p).row)))
      (λ q. all_kept t o (set (rows_of t) p r) q (names_same p q r refl)))
      refl zero-le)

  -- ---- abilities

  -- s' has the texts after the change: the function's name y stands at q
  able_leans : (q s : ℕ) (y : Bytes) (s' : Table) → q < length t.functions → s' ≡ set_function t q (with_name y (function_at t q)) → Lean (SV.Able q s) t s'
  unfolding stepped sparse ending values_of
  able_leans q s y s' here is =
      let x : Function = with_able s (with_name y (function_at t q)) in
      let u : Table = set_function t q x in
      let at : function_at u q ≡ x = get_or-set_same t.functions q x no_function here in
      let inside : q < length u.functions = rw (length-set t.functions q x) here in
      let others : (k : ℕ) → ¬ (k ≡ q) → function_at u k ≡ function_at t k = λ k d. get_or-set_other t.functions q k x no_function d in
      let waiting : Bool = any (waits q) (rows_of t) in
      let n : Function = with_name y (function_at t q) in
      lean_by (SV.Able q s) t s' u
      (λ i. with_ables (map_set (λ (z : Function). z.able) t.functions q x i) (values_of t))
      refl
      (subst (λ (z : Table). SameTexts u z) (sym is) (record { ids = refl; hub = refl; functions = both_set SameName q x n refl texts.functions; jobs = texts.jobs }))
      (record {
        awaited = o.awaited;
        rouses = one_rouses t o u q inside others (λ i l d. (l, refl)) (cond waiting (to_wake_set s t.connections) 0) waiting refl
            (λ k. has_if waiting (to_wake_set s t.connections) k
            ∙ ap (λ (b : Bool). waiting && b) (has_to_wake s t.connections k ∙ ap (λ (m : ℕ). (connection_at t k).asleep && has m k) (sym (able_at_lem u q ∙ ap (λ (z : Function). z.able) at))));
        keeps = λ k h. one_kept t o u q inside others (λ i d. refl) (not (is_empty s) || any (names q) (rows_of t))
            (ap (λ (z : Function). wanted (rows_of t) q z.able) at) k;
      })
      (sym (ap (λ (z : Table). set_function z q (with_able s (function_at z q))) is
      ∙ (λ i. with_functions ((ap (λ (z : Function). set (set t.functions q n) q (with_able s z)) (get_or-set_same t.functions q n no_function here) ∙ set_set t.functions q n x) i) t)))
      (cond_both (Within (length t.functions)) (not (is_empty s) || any (names q) (rows_of t)) zero-le here)

  -- ---- a submission

  join_leans : (f u : Bytes) (p : ℕ) (background : Bool) → joined t f u ≡ Some p → Leans (plan_join p c background (values_of t))
  unfolding plan_join stepped sparse changed ending values_of joined
  join_leans f u p background e l =
      let r : JobRow = submitted_by c background (job_at t p).row in
      let k : Job = with_row r (job_at t p) in
      let i : p < length t.jobs = (found _ no_job t.jobs (Some p) e).inside in
      subst (λ (x : JobRow). Lean (SV.Row p (submitted_by c background x)) t t) (sym (row_at t p))
      (lean_by (SV.Row p r) t t (set_job t p k)
      (ap (λ (l : List JobRow). with_rows l (values_of t)) (map_set (λ (j : Job). j.row) t.jobs p k))
      refl
      (record { ids = refl; hub = refl; functions = texts.functions; jobs = left_set SameJob p no_job k (rowed_same (job_at t p) r (submitted_live c background (job_at t p).row ∙ joined_found t f u p e)) texts.jobs })
      (job_settles t o t.connections p k None refl (λ x s. s) i (λ ables x g. sym (submitted_grabbable c background (job_at t p).row ables x) ∙ g) (submitted_awaited c background (job_at t p).row)
      (λ q. all_kept t o (set (rows_of t) p r) q (names_same p q r (submitted_names c background (job_at t p).row q))))
      refl zero-le)

  free_found : (p : ℕ) → free_row (rows_of t) ≡ Some p → (p < length t.jobs) × (live (job_at t p).row ≡ false)
  unfolding free_row
  free_found p e =
      let f = found (λ r. not (live r)) no_row (rows_of t) (Some p) e in
      (rw (rows_long t) at f.inside, ap live (sym (row_at t p)) ∙ not-true (live (get_or (rows_of t) p no_row)) f.passes)

  module _ (priority : ℕ) (background : Bool) (size : ℕ) where
    abbrev new : ℕ → JobRow
    new q = new_row c priority background q size (suc t.last)

    module _ (q p : ℕ) (er : room_for t.functions w.first ≡ Some q) (ef : free_place t ≡ Some p) where
      abbrev bare : JobRow
      bare = fresh_row (suc t.last) q priority size

      abbrev job : Job
      job = new_job c priority background q w.second size (suc t.last)

      abbrev after : Table
      after = accepted q w.first p job t

      keeps : Kept bare job.row
      keeps = submitted_keeps c background bare

      here : q < length t.functions
      here = (room t w.first q er).inside

      job_live : live job.row ≡ true
      job_live = submitted_live c background bare ∙ ap not (eqb-suc-zero t.last)

      own_job : job_at after p ≡ job
      own_job = get_or-set_same t.jobs p job no_job (free_found p ef).0

      -- naming a function makes nobody able
      able_same : get_or (ables_of after) q 0 ≡ get_or (ables_of t) (new q).function 0
      able_same =
          able_at_lem after q ∙ ap (λ (x : Function). x.able) (get_or-set_same t.functions q (with_name w.first (function_at t q)) no_function here)
          ∙ sym (able_at_lem t q) ∙ ap (λ (n : ℕ). get_or (ables_of t) n 0) (sym keeps.function)

      others : (k : ℕ) → ¬ (k ≡ q) → function_at after k ≡ function_at t k
      others k d = get_or-set_other t.functions q k (with_name w.first (function_at t q)) no_function d

      inside : q < length after.functions
      inside = rw (length-set t.functions q (with_name w.first (function_at t q))) here

      other_jobs : (i : ℕ) → i < length after.jobs → ¬ ((job_at after i).row.function ≡ q) → (i < length t.jobs) × (job_at after i ≡ job_at t i)
      other_jobs i l d = go (ℕ_discrete i p)
        where
          go : Dec (i ≡ p) → (i < length t.jobs) × (job_at after i ≡ job_at t i)
          go (yes e) = absurd (d (ap (λ (k : ℕ). (job_at after k).row.function) e ∙ ap (λ (j : Job). j.row.function) own_job ∙ keeps.function))
          go (no n) = (rw length-set at l, get_or-set_other t.jobs p i job no_job n)

      -- the new job waits, and names its function
      waiting : any (waits q) (rows_of after) ≡ true
      waiting =
          row_passes after (waits q) p (rw (length-set t.jobs p job) (free_found p ef).0)
          (rw own_job (and_both (queued job.row) _ (and_both (live job.row) _ job_live (eq-eqb job.row.holder 0 keeps.holder)) (eq-eqb job.row.function q keeps.function)))

      named_now : wanted (rows_of after) q (function_at after q).able ≡ true
      named_now =
          or_right (not (is_empty (function_at after q).able)) _
          (row_passes after (names q) p (rw (length-set t.jobs p job) (free_found p ef).0)
          (rw own_job (and_both (live job.row) _ job_live (eq-eqb job.row.function q keeps.function))))

      -- its place was free, so no other function is named less or more
      other_names : (k : ℕ) → ¬ (k ≡ q) → any (names k) (rows_of after) ≡ any (names k) (rows_of t)
      other_names k d =
          ap (any (names k)) (map_set (λ (j : Job). j.row) t.jobs p job)
          ∙ names_same p k job.row
          (names_other k job.row (λ (e : job.row.function ≡ k). d (sym e ∙ keeps.function)) ∙ sym (ap (λ (b : Bool). b && eqb (job_at t p).row.function k) (free_found p ef).1))

      accept_leans : Leans (done (SV.New p (new q)) (CV.Job p q) (OV.Created (suc t.last)))
      unfolding stepped sparse changed ending values_of
      accept_leans l =
          let x : Function = with_name w.first (function_at t q) in
          let y : Job = unstarted (job_at t p).row w.second in
          lean_by (SV.New p (new q)) t (set_job (set_function t q x) p y) after
          (λ i. with_last (sym keeps.serial i) (with_ables (map-set_same (λ (z : Function). z.able) t.functions q x no_function refl i)
          (with_rows (map_set (λ (j : Job). j.row) t.jobs p job i) (values_of t))))
          refl
          (record {
            ids = refl;
            hub = refl;
            functions = both_set SameName q _ _ refl texts.functions;
            jobs = both_set SameJob p _ _ (record { unfinished = λ _. refl; free = λ z. clash job_live z }) texts.jobs;
          })
          (record {
            awaited = all_set (λ j. implies (queued j.row) (j.row.background || not (is_empty j.row.listeners))) t.jobs p job o.awaited (submitted_awaited c background bare);
            rouses = one_rouses t o after q inside others other_jobs (to_wake_set (get_or (ables_of t) (new q).function 0) t.connections) true waiting
                (λ k. has_to_wake (get_or (ables_of t) (new q).function 0) t.connections k ∙ ap (λ (s : ℕ). (connection_at t k).asleep && has s k) (sym able_same));
            keeps = λ k h. one_kept t o after q inside others other_names true named_now k;
          })
          (λ i. with_last_serial (sym keeps.serial i) (with_jobs
          ((sym (set_set t.jobs p y job) ∙ ap (λ (j : Job). set (set t.jobs p y) p (with_row (new q) j)) (sym (get_or-set_same t.jobs p y no_job (free_found p ef).0))) i)
          (set_function t q x)))
          zero-le

  -- ---- worker packets

  work_inside : (h : Bytes) (p : ℕ) → held_job_of t c h ≡ Some p → p < length t.jobs
  work_inside h p e = (found (λ j. holds_handle t.hub c h j.row) no_job t.jobs (Some p) e).inside

  report_leans : (h : Bytes) (p : ℕ) (order : O'.Order) → held_job_of t c h ≡ Some p → Leans (done SV.Nothing (CV.Texts p) order)
  unfolding stepped sparse changed ending values_of
  report_leans h p order e l =
      let k : Job = with_texts w.second w.third (job_at t p) in
      lean_by SV.Nothing t (set_job t p k) (set_job t p k)
      (ap (λ (l : List JobRow). with_rows l (values_of t)) (map-set_same (λ (j : Job). j.row) t.jobs p k no_job refl))
      refl
      (record { ids = refl; hub = refl; functions = texts.functions; jobs = both_set SameJob p k k (live_same k (held_found t c h p e)) texts.jobs })
      (job_settles t o t.connections p k None refl (λ x s. s) (work_inside h p e) (λ ables x g. g)
      (all_row (λ j. implies (queued j.row) (j.row.background || not (is_empty j.row.listeners))) t.jobs p no_job o.awaited refl)
      (λ q. all_kept t o (set (rows_of t) p k.row) q (names_same p q k.row refl)))
      refl zero-le

  -- its function may be forgotten
  end_leans : (h : Bytes) (p : ℕ) (order : O'.Order) → held_job_of t c h ≡ Some p → Leans (done (SV.End p) CV.Nothing order)
  unfolding stepped sparse changed ending values_of
  end_leans h p order e l =
      let q : ℕ = (get_or (rows_of t) p no_row).function in
      let is : (job_at t p).row.function ≡ q = ap (λ (r : JobRow). r.function) (sym (row_at t p)) in
      let m : row_has_meaning t (job_at t p) ≡ true = rw (held_found t c h p e) at (all_at (row_means t) t.jobs p no_job o.sound.rows (work_inside h p e)) in
      let here : q < length t.functions =
      subst (λ (n : ℕ). n < length t.functions) is (in_range (length t.functions) (length t.connections) (job_at t p).row m).function in
      let b : Bool = not (is_empty (get_or (ables_of t) q 0)) || any (names q) (set (rows_of t) p no_row) in
      let rows : rows_of (set_job t p no_job) ≡ set (rows_of t) p no_row = map_set (λ (j : Job). j.row) t.jobs p no_job in
      lean_by (SV.End p) t t (set_job t p no_job)
      (ap (λ (l : List JobRow). with_rows l (values_of t)) (map_set (λ (j : Job). j.row) t.jobs p no_job))
      refl
      (record { ids = refl; hub = refl; functions = texts.functions; jobs = left_set SameJob p no_job no_job (gone_same (job_at t p)) texts.jobs })
      (job_settles t o t.connections p no_job (cond b None (Some q)) refl (λ x s. s) (work_inside h p e) (λ ables x g. clash g refl) refl
      (λ k. ap (λ (rs : List JobRow). cond (wanted rs k (function_at t k).able) (function_at t k) no_function) (sym rows)
      ∙ one_kept t o (set_job t p no_job) q here (λ k d. refl)
      (λ k d. ap (any (names k)) rows ∙ names_same p k no_row (sym (names_other k (job_at t p).row (λ (z : (job_at t p).row.function ≡ k). d (sym z ∙ is)))))
      b (ap₂ (λ (rs : List JobRow) (s : ℕ). wanted rs q s) rows (sym (able_at_lem t q))) k))
      refl
      (cond_both (Within (length t.functions)) b zero-le here)

  work_leans : {how : Work} {n d : Bytes} (h : Bytes) → Says w how n d → (p : ℕ) → held_job_of t c h ≡ Some p → Leans (plan_work (Some p) how (values_of t))
  unfolding plan_work
  work_leans h (that_tells n d) p e = nothing_leans 0 (OV.Copies (row_in (values_of t) p).listeners)
  work_leans h that_reports p e = report_leans h p (OV.Copies (row_in (values_of t) p).listeners) e
  work_leans h (that_ends n d) p e = end_leans h p (OV.Copies (row_in (values_of t) p).listeners) e
  work_leans h (that_throws n d) p e = end_leans h p (OV.Told (row_in (values_of t) p).listeners (heard (values_of t).connections (row_in (values_of t) p).listeners) (row_in (values_of t) p).serial) e

  status_leans : (o : Option ℕ) → Leans (plan_status o)
  status_leans None = nothing_leans 0 OV.Unknown
  status_leans (Some p) = nothing_leans 0 (OV.Status p)

  -- ---- every event

  pub opening_leans : Leans (plan_opening c)
  opening_leans = flags_leans just_opened OV.Nothing

  pub closing_leans : Leans (plan_closing c)
  unfolding is_lean
  closing_leans = λ e. clash e refl

  change_leans : {a : Request} {ss : List Send} {u : Table} (m : Change c t a ss u) → Suits w a → Leans (plan_of c t m)
  unfolding plan_can_do plan_cant_do plan_grab is_lean changed values_of
  change_leans (O.able f q e) for_can = λ l. able_leans q (insert (get_or (ables_of t) q 0) c) f _ (room t f q e).inside refl
  change_leans (unknown f e) s = nothing_leans 0 OV.Nothing
  change_leans (disabled f q e) s =
      λ l. able_leans q (remove (get_or (ables_of t) q 0) c) (function_at t q).name t (found (λ x. same x.name f) no_function t.functions (Some q) e).inside
      (λ i. with_functions (sym (set_own t.functions q no_function) i) t)
  change_leans (identified i) s = id_leans OV.Nothing
  change_leans cleared s = λ e. clash e refl
  change_leans slept s = flags_leans _ OV.Nothing
  change_leans (no_job_for uniq e) s = flags_leans _ OV.NoJob
  change_leans (grabbed uniq p e) s = λ l. held_leans p e
  change_leans (joins priority background f u size p e) s = join_leans f u p background e
  change_leans (accepts priority background f u size q p e₁ e₂ e₃ m) (for_submit priority' background' size') = accept_leans priority background size q p e₂ e₃
  change_leans (worker how kind h n d p e) (for_work h' s) = work_leans h s p e
  change_leans (status h o e) s = status_leans o
  change_leans (optioned name e) s = flags_leans _ OV.Optioned
  change_leans echoed s = nothing_leans 0 OV.Echo

  draws_leans : {a : Request} {p : Plan} {d : Decision} → Draws c t a p d → Suits w a → Leans p
  draws_leans (refused a n r) s = nothing_leans n OV.Nothing
  draws_leans (Draws.done m) s = change_leans m s

  pub served_leans : {a : Request} → Suits w a → Leans (plan_served c a t)
  served_leans {a} s = draws_leans (draws c t a) s
