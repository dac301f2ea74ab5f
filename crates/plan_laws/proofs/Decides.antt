-- A plan does what the server's definitions decide: the same number, the same packets in the same order, and the table that its
-- numbers and texts make. Assumes nothing.
use Prim.Native.Nat.{ℕ, suc, ◌≤◌}
use mathlib.Core.Path.{◌≡◌, refl, ap, ap₂, sym, ◌∙◌, subst}
use mathlib.Core.Bool.{Bool, true, false, not, cond}
use Rattle.std.specs.Prelude.{Option, Some, None}
use mathlib.Core.List.{List, [], ◌∷◌, ◌++◌, map}
use native.Mathlib.Omega.{arith}
use lib.ListN.{length, get_or, set}
use lib.Seq.{map-set_same}
use lib.Dec.{eqb-suc-zero}
use Rattle.octets.specs.Bytes.{Bytes, same}
use Rattle.octets.proofs.Strings.{same_is}
use Rattle.sets.specs.Sets.{has, insert, remove, members}
use Rattle.lists.proofs.Maps.{map_set, map_map}
use Rattle.lists.proofs.Rows.{clash}
use Rattle.server.specs.declared.JobRow.{JobRow}
use Rattle.server.specs.Table.{Function, Job, Table, no_row, no_job, no_function, closed, connection_at, function_at, job_at, rows_of, ables_of, set_connection, set_id, set_function, set_job, with_row, with_texts, with_holder, live, held_by, with_name}
use Rattle.server.specs.Rules.{obeys}
use Rattle.server.specs.Requests.{Work, tells, reports, ends, throws, Request, reset, pre_sleep, echo, bad, can_do, cant_do, identify, grab, submit, work, get_status, option}
use Rattle.server.specs.Events.{Send, plain, copy, Decision, refuse, noop, settle, opening, closing, left_by, deaf_to, unable, able_to, unable_to_all, sleeping, submitted_by, created, new_job, accepted, failure, to_listeners, worked, listeners_of, status_of, exceptions_name, catching, served, to_wake_in, held_job_of}
use Rattle.server.specs.Refusals.{last_number}
use Rattle.server_laws.proofs.Numbers.{row_at, able_at_lem}
use Rattle.server_laws.proofs.Going.{grabbed_live, joined_found, held_found}
use Rattle.server_laws.proofs.Outcome.{Change, able, unknown, disabled, identified, cleared, slept, no_job_for, grabbed, joins, accepts, worker, status, optioned, echoed, Refuses, unread, no_room, no_place, no_serial, not_held, no_option}
use Rattle.server_laws.proofs.Outcome as O
use Rattle.plan.specs.declared.Values as V'
use Rattle.plan.specs.declared.Plan.{Plan}
use Rattle.plan.specs.declared.Step as S'
use Rattle.plan.specs.declared.Step.TheVariants as SV
use Rattle.plan.specs.declared.Change as C'
use Rattle.plan.specs.declared.Change.TheVariants as CV
use Rattle.plan.specs.declared.Order as O'
use Rattle.plan.specs.declared.Order.TheVariants as OV
use Rattle.plan.specs.Values.{values_of, with_last, with_ables, with_rows}
use Rattle.plan.specs.Settling.{dropped_rows, settled_values}
use Rattle.plan.specs.Parts.{left_row, new_row, heard, changed, final_table, ordered, with_connection}
use Rattle.plan.specs.Steps.{stepped}
use Rattle.plan.specs.Plans as P
use Rattle.plan.specs.Plans.{plan_can_do, plan_cant_do, plan_grab, plan_join, plan_work, plan_status, plan_served, plan_opening, plan_closing, refusal}
use Rattle.plan_laws.proofs.Settled.{SameJob, SameTexts, settled_plan, final_values}
use Rattle.plan_laws.proofs.Texts.{both_set, left_set, left_map, SameName, rowed_same, gone_same, live_same, own_texts, left_jobs}
use Rattle.plan_laws.proofs.Hearing.{told_option}
use Rattle.plan_laws.proofs.Draws.{plan_of, Draws, refused, done, draws}

-- ---- the words of a request that a plan uses

pub record Words : Type 0 where
  pub first : Bytes
  pub second : Bytes
  pub third : Bytes
  pub kind : ℕ
  pub job : Bytes

-- what a worker may say with these words: the texts of a status are the second and the third
pub data Says (w : Words) : Work → Bytes → Bytes → Type 0 where
  that_tells : (n d : Bytes) → Says w tells n d
  that_reports : Says w reports w.second w.third
  that_ends : (n d : Bytes) → Says w ends n d
  that_throws : (n d : Bytes) → Says w throws n d

-- what may be asked with these words: where a plan uses a word, the request has it; a refusal has a number of document 01
pub data Suits (w : Words) : Request → Type 0 where
  for_reset : Suits w reset
  for_sleep : Suits w pre_sleep
  for_echo : Suits w echo
  for_bad : (n : ℕ) → 1 ≤ n → n ≤ last_number → Suits w (bad n)
  for_can : Suits w (can_do w.first)
  for_cannot : (f : Bytes) → Suits w (cant_do f)
  for_id : Suits w (identify w.first)
  for_grab : (uniq : Bool) → Suits w (grab uniq)
  for_submit : (priority : ℕ) (background : Bool) (size : ℕ) → Suits w (submit priority background w.first w.second size)
  for_work : {how : Work} {n d : Bytes} (h : Bytes) → Says w how n d → Suits w (work how w.kind h n d)
  for_status : Suits w (get_status w.job)
  for_option : (name : Bytes) → Suits w (option name)

-- ---- what a plan comes to

module _ (w : Words) (c : ℕ) (t : Table) where
  -- the numbers after a step, and the texts after a change
  abbrev numbers_after : S'.Step → V'.Values
  numbers_after step = stepped step (values_of t)

  abbrev texts_after : C'.Change → Table
  texts_after change = changed change w.first w.second w.third t

  -- packets, and the NOOPs of those that the numbers wake; and the table
  abbrev pub carried : Plan → Decision
  carried p =
      let v = numbers_after p.step in
      record {
        number = 0;
        packets = ordered p.order (length t.connections) c w.kind w.job t ++ map noop (to_wake_in v.able (dropped_rows v.rows) v.connections);
        table = final_table v (texts_after p.change);
      }

  -- a refusal has a number of document 01; carried out, the table has the settled numbers
  pub data Planned : Plan → Decision → Type 0 where
    declined : (n : ℕ) → 1 ≤ n → n ≤ last_number → Planned (refusal n) (refuse c n t)
    carries : (step : S'.Step) (change : C'.Change) (order : O'.Order)
        → values_of (final_table (numbers_after step) (texts_after change)) ≡ settled_values (numbers_after step)
        → Planned (P.done step change order) (carried (P.done step change order))

  -- a table u before it is settled, by its numbers and the table whose texts it has
  by_parts : (u : Table) (ss : List Send) (step : S'.Step) (change : C'.Change) (order : O'.Order)
      → values_of u ≡ numbers_after step → SameTexts u (texts_after change) → ordered order (length t.connections) c w.kind w.job t ≡ ss
      → Planned (P.done step change order) (settle ss u)
  unfolding values_of
  by_parts u ss step change order e same o =
      subst (Planned (P.done step change order))
      (ap₂ {C = Decision} (λ (x : V'.Values) (l : List Send). record {
        number = 0;
        packets = l ++ map noop (to_wake_in x.able (dropped_rows x.rows) x.connections);
        table = final_table x (texts_after change);
      }) (sym e) o
      ∙ sym (settled_plan u (texts_after change) same ss))
      (carries step change order (subst (λ (x : V'.Values). values_of (final_table x (texts_after change)) ≡ settled_values x) e (final_values u (texts_after change) same)))

-- ---- each change

submitted_live : (c : ℕ) (background : Bool) (r : JobRow) → live (submitted_by c background r) ≡ live r
submitted_live c true r = refl
submitted_live c false r = refl

new_row_serial : (c priority : ℕ) (background : Bool) (q size serial : ℕ) → (new_row c priority background q size serial).serial ≡ serial
new_row_serial c priority true q size serial = refl
new_row_serial c priority false q size serial = refl

module _ (w : Words) (c : ℕ) (t : Table) (ok : obeys t ≡ true) where
  texts : SameTexts t t
  texts = own_texts t ok

  unables : map (λ (x : Function). x.able) (map (unable c) t.functions) ≡ map (λ (s : ℕ). remove s c) (ables_of t)
  unables = map_map (λ (x : Function). x.able) (unable c) (λ x. remove x.able c) (λ x. refl) t.functions
      ∙ sym (map_map (λ (s : ℕ). remove s c) (λ (x : Function). x.able) (λ x. remove x.able c) (λ x. refl) t.functions)

  -- one function that other connections can do
  able_values : (q : ℕ) (x : Function) (s : ℕ) → x.able ≡ s → with_ables (map (λ (y : Function). y.able) (set t.functions q x)) (values_of t) ≡ with_ables (set (ables_of t) q s) (values_of t)
  able_values q x s e = ap (λ (l : List ℕ). with_ables l (values_of t)) (map_set (λ (y : Function). y.able) t.functions q x ∙ ap (set (ables_of t) q) e)

  -- all listeners hear
  to_all : (kind p : ℕ) → map (λ l. copy l kind) (members (length t.connections) (get_or (rows_of t) p no_row).listeners) ≡ map (λ l. copy l kind) (listeners_of t (job_at t p).row)
  to_all kind p = ap (λ (r : JobRow). map (λ l. copy l kind) (members (length t.connections) r.listeners)) (row_at t p)

  -- those with the option hear, and the others are told of a failure
  to_some : (kind p : ℕ) → let r = get_or (rows_of t) p no_row in
      map (λ l. cond (has (heard t.connections r.listeners) l) (copy l kind) (failure t.hub r.serial l)) (members (length t.connections) r.listeners) ≡ to_listeners throws kind t (job_at t p).row
  unfolding to_listeners
  to_some kind p = rw (row_at t p) (told_option (λ l. copy l kind) (failure t.hub (job_at t p).row.serial) t.connections (job_at t p).row.listeners)

  same_rows : (p : ℕ) (j : Job) → j.row ≡ (job_at t p).row → with_rows (map (λ (k : Job). k.row) (set t.jobs p j)) (values_of t) ≡ with_rows (rows_of t) (values_of t)
  same_rows p j e = ap (λ (l : List JobRow). with_rows l (values_of t)) (map-set_same (λ (k : Job). k.row) t.jobs p j no_job e)

  other_rows : (v : V'.Values) (p : ℕ) (j : Job) (r : JobRow) → j.row ≡ r → with_rows (map (λ (k : Job). k.row) (set t.jobs p j)) v ≡ with_rows (set (rows_of t) p r) v
  other_rows v p j r e = ap (λ (l : List JobRow). with_rows l v) (map_set (λ (k : Job). k.row) t.jobs p j ∙ ap (set (rows_of t) p) e)

  p_work : {how : Work} {n d : Bytes} (h : Bytes) → Says w how n d → (p : ℕ) → held_job_of t c h ≡ Some p
      → Planned w c t (plan_work (Some p) how (values_of t)) (settle (to_listeners how w.kind t (job_at t p).row) (set_job t p (worked how n d (job_at t p))))
  unfolding plan_work changed ordered values_of stepped to_listeners
  p_work h (that_tells n d) p e =
      by_parts w c t (set_job t p (job_at t p)) _ SV.Nothing CV.Nothing _ (same_rows p (job_at t p) refl)
      (record { ids = refl; hub = refl; functions = texts.functions; jobs = left_set SameJob p no_job _ (live_same (job_at t p) (held_found t c h p e)) texts.jobs })
      (to_all w.kind p)
  p_work h that_reports p e =
      by_parts w c t (set_job t p (with_texts w.second w.third (job_at t p))) _ SV.Nothing (CV.Texts p) _ (same_rows p (with_texts w.second w.third (job_at t p)) refl)
      (record { ids = refl; hub = refl; functions = texts.functions; jobs = both_set SameJob p _ _ (live_same (with_texts w.second w.third (job_at t p)) (held_found t c h p e)) texts.jobs })
      (to_all w.kind p)
  p_work h (that_ends n d) p e =
      by_parts w c t (set_job t p no_job) _ (SV.End p) CV.Nothing _ (other_rows (values_of t) p no_job no_row refl)
      (record { ids = refl; hub = refl; functions = texts.functions; jobs = left_set SameJob p no_job _ (gone_same (job_at t p)) texts.jobs })
      (to_all w.kind p)
  p_work h (that_throws n d) p e =
      by_parts w c t (set_job t p no_job) _ (SV.End p) CV.Nothing _ (other_rows (values_of t) p no_job no_row refl)
      (record { ids = refl; hub = refl; functions = texts.functions; jobs = left_set SameJob p no_job _ (gone_same (job_at t p)) texts.jobs })
      (to_some w.kind p)

  p_status : (o : Option ℕ) → Planned w c t (plan_status o) (settle (plain c 20 (status_of o w.job t) ∷ []) t)
  unfolding changed ordered stepped
  p_status None = by_parts w c t t _ SV.Nothing CV.Nothing OV.Unknown refl texts refl
  p_status (Some p) = by_parts w c t t _ SV.Nothing CV.Nothing (OV.Status p) refl texts refl

  change_planned : {a : Request} {ss : List Send} {u : Table} (m : Change c t a ss u) → Suits w a → Planned w c t (plan_of c t m) (settle ss u)
  unfolding plan_can_do plan_cant_do plan_grab plan_join sleeping unable_to_all changed ordered values_of stepped
  change_planned (able f q e) for_can =
      by_parts w c t (set_function t q (able_to c f (function_at t q))) [] _ (CV.Name q) OV.Nothing
      (able_values q (able_to c f (function_at t q)) (insert (get_or (ables_of t) q 0) c) (ap (λ (s : ℕ). insert s c) (sym (able_at_lem t q))))
      (record { ids = refl; hub = refl; functions = both_set SameName q _ _ refl texts.functions; jobs = texts.jobs })
      refl
  change_planned (unknown f e) (for_cannot g) = by_parts w c t t [] SV.Nothing CV.Nothing OV.Nothing refl texts refl
  change_planned (disabled f q e) (for_cannot g) =
      by_parts w c t (set_function t q (unable c (function_at t q))) [] _ CV.Nothing OV.Nothing
      (able_values q (unable c (function_at t q)) (remove (get_or (ables_of t) q 0) c) (ap (λ (s : ℕ). remove s c) (sym (able_at_lem t q))))
      (record { ids = refl; hub = refl; functions = left_set SameName q no_function _ refl texts.functions; jobs = texts.jobs })
      refl
  change_planned (identified i) for_id = by_parts w c t (set_id t c w.first) [] SV.Nothing (CV.Id c) OV.Nothing refl (record { ids = refl; hub = refl; functions = texts.functions; jobs = texts.jobs }) refl
  change_planned cleared for_reset =
      by_parts w c t (unable_to_all c t) [] (SV.Reset c) CV.Nothing OV.Nothing (ap (λ (l : List ℕ). with_ables l (values_of t)) unables)
      (record { ids = refl; hub = refl; functions = left_map SameName (unable c) (λ a b e. e) texts.functions; jobs = texts.jobs })
      refl
  change_planned slept for_sleep = by_parts w c t (sleeping true c t) [] _ CV.Nothing OV.Nothing refl (record { ids = refl; hub = refl; functions = texts.functions; jobs = texts.jobs }) refl
  change_planned (no_job_for uniq e) (for_grab v) = by_parts w c t (sleeping false c t) _ _ CV.Nothing OV.NoJob refl (record { ids = refl; hub = refl; functions = texts.functions; jobs = texts.jobs }) refl
  change_planned (grabbed uniq p e) (for_grab v) =
      by_parts w c t (set_job (sleeping false c t) p (with_row (with_holder (suc c) (job_at t p).row) (job_at t p))) _ _ CV.Nothing (OV.Assign uniq p)
      (other_rows (values_of (sleeping false c t)) p (with_row (with_holder (suc c) (job_at t p).row) (job_at t p)) _ (ap (with_holder (suc c)) (sym (row_at t p))))
      (record { ids = refl; hub = refl; functions = texts.functions; jobs = left_set SameJob p no_job _ (rowed_same (job_at t p) _ (grabbed_live t c p e)) texts.jobs })
      refl
  change_planned (joins priority background f u size p e) (for_submit priority' background' size') =
      by_parts w c t (set_job t p (with_row (submitted_by c background (job_at t p).row) (job_at t p))) _ _ CV.Nothing (OV.Created _)
      (other_rows (values_of t) p (with_row (submitted_by c background (job_at t p).row) (job_at t p)) _ (ap (submitted_by c background) (sym (row_at t p))))
      (record { ids = refl; hub = refl; functions = texts.functions; jobs = left_set SameJob p no_job _ (rowed_same (job_at t p) _ (submitted_live c background (job_at t p).row ∙ joined_found t f u p e)) texts.jobs })
      (ap (λ (r : JobRow). created t.hub c r.serial ∷ []) (row_at t p))
  change_planned (accepts priority background f u size q p e₁ e₂ e₃ m) (for_submit priority' background' size') =
      by_parts w c t (accepted q f p (new_job c priority background q u size (suc t.last)) t) _ _ (CV.Job p q) (OV.Created (suc t.last))
      (λ i. with_last (sym (new_row_serial c priority background q size (suc t.last)) i)
      (with_ables (map-set_same (λ (x : Function). x.able) t.functions q (with_name f (function_at t q)) no_function refl i)
      (with_rows (map_set (λ (j : Job). j.row) t.jobs p (new_job c priority background q u size (suc t.last)) i) (values_of t))))
      (record {
        ids = refl;
        hub = refl;
        functions = both_set SameName q _ _ refl texts.functions;
        jobs = both_set SameJob p _ _ (record { unfinished = λ e. refl; free = λ e. clash (submitted_live c background _ ∙ ap not (eqb-suc-zero t.last)) e }) texts.jobs;
      })
      refl
  change_planned (worker how kind h n d p e) (for_work h' s) = p_work h s p e
  change_planned (status h o e) for_status = p_status o
  change_planned (optioned name e) (for_option name') =
      by_parts w c t (set_connection t c (catching (connection_at t c))) _ _ CV.Nothing OV.Optioned refl (record { ids = refl; hub = refl; functions = texts.functions; jobs = texts.jobs })
      (ap (λ (b : Bytes). plain c 27 (b ∷ []) ∷ []) (sym (same_is name exceptions_name e)))
  change_planned echoed for_echo = by_parts w c t t _ SV.Nothing CV.Nothing OV.Echo refl texts refl

  -- ---- refusals

  refuses_planned : {a : Request} {n : ℕ} → Refuses c t a n → Suits w a → Planned w c t (refusal n) (refuse c n t)
  refuses_planned (unread n) (for_bad n' l m) = declined n l m
  refuses_planned (no_room f e) s = declined 11 (omega arith) (omega arith)
  refuses_planned (O.no_function priority background f u size e₁ e₂) s = declined 11 (omega arith) (omega arith)
  refuses_planned (no_place priority background f u size q e₁ e₂ e₃) s = declined 12 (omega arith) (omega arith)
  refuses_planned (no_serial priority background f u size q p e₁ e₂ e₃ m) s = declined 13 (omega arith) (omega arith)
  refuses_planned (not_held how kind h n d e) s = declined 14 (omega arith) (omega arith)
  refuses_planned (no_option name e) s = declined 15 (omega arith) (omega arith)

  -- ---- every event

  draws_planned : {a : Request} {p : Plan} {d : Decision} → Draws c t a p d → Suits w a → Planned w c t p d
  draws_planned (refused a n r) s = refuses_planned r s
  draws_planned (done m) s = change_planned m s

  -- the plan of a request does what the definitions decide, with all words that suit what it asks
  pub served_planned : {a : Request} → Suits w a → Planned w c t (plan_served c a t) (served c a t)
  served_planned {a} s = draws_planned (draws c t a) s

  pub opening_planned : Planned w c t (plan_opening c) (settle [] (opening c t))
  unfolding opening changed ordered values_of stepped
  opening_planned = by_parts w c t (opening c t) _ _ CV.Nothing OV.Nothing refl (record { ids = refl; hub = refl; functions = texts.functions; jobs = texts.jobs }) refl

  left_row_lem : (j : Job) → (left_by c j).row ≡ left_row c j.row
  left_row_lem j = go (held_by c j.row)
    where
      go : (b : Bool) → (cond b (with_texts (48 ∷ []) (48 ∷ []) (with_row (with_holder 0 (deaf_to c j.row)) j)) (with_row (deaf_to c j.row) j)).row
          ≡ cond b (with_holder 0 (deaf_to c j.row)) (deaf_to c j.row)
      go true = refl
      go false = refl

  pub closing_planned : Planned w c t (plan_closing c) (settle [] (closing c t))
  unfolding closing changed ordered values_of stepped
  closing_planned =
      by_parts w c t (closing c t) _ (SV.Leave c) (CV.Left c) OV.Nothing
      (λ i. with_connection c closed (with_ables (unables i)
      (with_rows ((map_map (λ (j : Job). j.row) (left_by c) (λ j. left_row c j.row) left_row_lem t.jobs ∙ sym (map_map (left_row c) (λ (j : Job). j.row) (λ j. left_row c j.row) (λ j. refl) t.jobs)) i) (values_of t))))
      (record { ids = refl; hub = refl; functions = left_map SameName (unable c) (λ a b e. e) texts.functions; jobs = left_jobs c texts.jobs })
      refl
