-- A lean step and its ending laid over the bytes of a table: the bytes of the table that both leave. Assumes nothing.
use Prim.Native.Nat.{ℕ, ◌+◌, ◌<◌}
use Rattle.std.specs.Prelude.{Option, Some, None}
use mathlib.Core.Path.{◌≡◌, refl, sym, ap, ◌∙◌, subst}
use mathlib.Core.Bool.{Bool, true, false, cond}
use mathlib.Core.List.{List}
use native.Mathlib.Omega.{arith}
use lib.ListN.{length-set}
use Rattle.octets.specs.Bytes.{Bytes}
use Rattle.octets.specs.Put.{put}
use Rattle.sets.specs.Sets.{has}
use Rattle.sets.proofs.Laws.{zero_has}
use Rattle.server.specs.declared.Connection.{Connection}
use Rattle.lists.specs.Lists.{map_from}
use Rattle.server.specs.Sizes.{connection_count, function_count}
use Rattle.server.specs.Layout.{flag_byte, bytes_of, table_of, asleep_at}
use Rattle.server.specs.Call.{is_sound}
use Rattle.server.specs.Events.{awake}
use Rattle.server.specs.Table.{Table, closed, no_job, connection_at, job_at, set_connection, set_job, with_row, with_last_serial, with_connections, with_functions}
use Rattle.lists.proofs.Rows.{length_map_from, set_own}
use Rattle.table_laws.proofs.Puts.{put_able, put_asleep, put_last}
use Rattle.plan.specs.declared.Change as C'
use Rattle.plan.specs.Values.{values_of}
use Rattle.plan.specs.Parts.{changed, final_table}
use Rattle.carry_places.specs.Laying.{laid_row, laid_each}
use Rattle.carry_places.proofs.Laid.{Whole, whole_last, whole_connections, whole_functions, whole_jobs, row_laid, free_laid, flags_laid, forgotten_laid}
use Rattle.carry_places.proofs.Each.{each_connection, each_laid, each_none, all_connections, connection_whole}
use Rattle.carry_whole.proofs.Laid.{whole}
use Rattle.carry_whole.proofs.Carried.{changed_whole}
use Rattle.plan.specs.declared.Step as S'
use Rattle.plan.specs.declared.Step.TheVariants as SV
use Rattle.plan.specs.declared.Ending.{Ending}
use Rattle.plan.specs.Steps.{stepped, sparse, ending, without, ended, Inside, Within, Lean}
use Rattle.carry_step.specs.Laying.{laid_step, laid_if_woken, laid_without, laid_ending}

-- ---- a step

-- a step laid is the step on the table
step_laid : (step : S'.Step) (t : Table) → Whole t → (b : Bytes) → Inside step → laid_step step (put 0 (bytes_of t) b) ≡ put 0 (bytes_of (sparse step t)) b
unfolding laid_step sparse
step_laid SV.Nothing t w b i = refl
step_laid (SV.Row p r) t w b i = row_laid t w b p r i
step_laid (SV.End p) t w b i = free_laid t w b p i
step_laid (SV.Grab p r c x) t w b i =
    ap (laid_row p r) (flags_laid t w b c x i.1)
    ∙ row_laid (set_connection t c x) (whole_connections t w _ (length-set t.connections c x)) b p r i.0
step_laid (SV.New p r) t w b i =
    ap (laid_row p r) (put_last t b r.serial)
    ∙ row_laid (with_last_serial r.serial t) (whole_last t w r.serial) b p r i
step_laid (SV.Flags c x) t w b i = flags_laid t w b c x i
step_laid (SV.Able q s) t w b i = (rw w.connections at (put_able t (record { functions = w.functions; jobs = w.jobs }) b q i s))
step_laid (SV.Reset c) t w b i = refl
step_laid (SV.Leave c) t w b i = refl

sparse_whole : (step : S'.Step) (t : Table) → Whole t → Whole (sparse step t)
unfolding sparse
sparse_whole SV.Nothing t w = w
sparse_whole (SV.Row p r) t w = whole_jobs t w _ (length-set t.jobs p _)
sparse_whole (SV.End p) t w = whole_jobs t w _ (length-set t.jobs p no_job)
sparse_whole (SV.Grab p r c x) t w = whole_jobs (set_connection t c x) (whole_connections t w _ (length-set t.connections c x)) _ (length-set t.jobs p _)
sparse_whole (SV.New p r) t w = whole_last (set_job t p (with_row r (job_at t p))) (whole_jobs t w _ (length-set t.jobs p _)) r.serial
sparse_whole (SV.Flags c x) t w = whole_connections t w _ (length-set t.connections c x)
sparse_whole (SV.Able q s) t w = whole_functions t w _ (length-set t.functions q _)
sparse_whole (SV.Reset c) t w = w
sparse_whole (SV.Leave c) t w = w

-- ---- an ending

module _ (s : ℕ) where
  abbrev roused : ℕ → Connection → Connection
  roused c x = cond (has s c) (awake x) x

  woken_laid : (t : Table) → Whole t → (b : Bytes) (c : ℕ) → c < connection_count → laid_if_woken s c (put 0 (bytes_of t) b) ≡ put 0 (bytes_of (each_connection roused c t)) b
  woken_laid t w b c h = go (has s c)
    where
      go : (a : Bool) → cond a (put (asleep_at connection_count + c) (flag_byte false) (put 0 (bytes_of t) b)) (put 0 (bytes_of t) b) ≡ put 0 (bytes_of (set_connection t c (cond a (awake (connection_at t c)) (connection_at t c)))) b
      go true = rw w.connections at (put_asleep t (record { functions = w.functions; jobs = w.jobs }) b c (rw w.connections h) false)
      go false = ap (λ (cs : List Connection). put 0 (bytes_of (with_connections cs t)) b) (sym (set_own t.connections c closed))

  awake_laid : (t : Table) → Whole t → (b : Bytes) → laid_each (laid_if_woken s) 0 connection_count (put 0 (bytes_of t) b) ≡ put 0 (bytes_of (with_connections (map_from roused 0 t.connections) t)) b
  awake_laid t w b =
      each_laid (laid_if_woken s) (each_connection roused) connection_count b (λ c u v h. woken_laid u v b c h) (connection_whole roused) 0 connection_count t w (omega arith)
      ∙ ap (λ (u : Table). put 0 (bytes_of u) b) (all_connections roused connection_count t w.connections)

without_laid : (o : Option ℕ) (t : Table) → Whole t → (b : Bytes) → Within function_count o → laid_without o (put 0 (bytes_of t) b)
    ≡ put 0 (bytes_of (with_functions (without o t.functions) t)) b
without_laid None t w b i = refl
without_laid (Some q) t w b i = forgotten_laid t w b q i

-- an ending laid is the ending on the table
ending_laid : (e : Ending) (t : Table) → Whole t → (b : Bytes) → Within function_count e.forgotten → laid_ending e (put 0 (bytes_of t) b) ≡ put 0 (bytes_of (ended e t)) b
unfolding laid_ending ended
ending_laid e t w b i =
    ap (laid_without e.forgotten) (awake_laid e.woken t w b)
    ∙ without_laid e.forgotten (with_connections (map_from (roused e.woken) 0 t.connections) t)
    (whole_connections t w _ (length_map_from (roused e.woken) 0 t.connections)) b i

-- where nobody wakes nothing is laid
pub none_awake : (b : Bytes) → laid_each (laid_if_woken 0) 0 connection_count b ≡ b
none_awake b = each_none (laid_if_woken 0) (λ c x. ap (λ (a : Bool). cond a (put (asleep_at connection_count + c) (flag_byte false) x) x) (zero_has c)) 0 connection_count b

-- ---- a change, a step, and its ending

module _ (b : Bytes) (sound : is_sound connection_count b ≡ true) (step : S'.Step) (x : C'.Change) (a u d : Bytes) where
  abbrev t : Table
  t = table_of connection_count b

  -- the place that is forgotten is one of the table's
  pub forgets_within : (e : Ending) → e ≡ ending step (values_of t) → Lean step t (changed x a u d t) → Within function_count e.forgotten
  forgets_within e is l =
      subst (λ (y : Ending). Within function_count y.forgotten) (sym is) (subst (λ (n : ℕ). Within n (ending step (values_of t)).forgotten) (whole b sound).functions l.within)

  pub step_carried : (e : Ending) (m n : Bytes) → Inside step → e ≡ ending step (values_of t) → Lean step t (changed x a u d t)
      → m ≡ put 0 (bytes_of (changed x a u d t)) b → n ≡ laid_step step m → laid_ending e n ≡ put 0 (bytes_of (final_table (stepped step (values_of t)) (changed x a u d t))) b
  step_carried e m n i is l laid then =
      let s : Table = changed x a u d t in
      let w : Whole s = changed_whole x a u d t (whole b sound) in
      ap (laid_ending e) (then ∙ ap (laid_step step) laid ∙ step_laid step s w b i)
      ∙ ending_laid e (sparse step s) (sparse_whole step s w) b (forgets_within e is l)
      ∙ ap (λ (y : Ending). put 0 (bytes_of (ended y (sparse step s))) b) is
      ∙ ap (λ (y : Table). put 0 (bytes_of y) b) (sym l.leaves)
