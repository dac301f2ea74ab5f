-- The settled table from its numbers and its texts: where the numbers are those of a table u, and the texts those of u wherever a job
-- is unfinished, settling u gives the table that they make. Assumes nothing.
use Prim.Native.Nat.{ℕ, suc, ◌+◌}
use mathlib.Core.Path.{◌≡◌, refl, ap, ap₂, sym, ◌∙◌}
use mathlib.Core.Bool.{Bool, true, false, cond}
use mathlib.Core.List.{List, [], ◌∷◌, ◌++◌, map}
use native.Mathlib.Nat.{zero-add, add-zero, add-suc, suc-add}
use lib.ListN.{get_or}
use Rattle.server.specs.declared.JobRow.{JobRow}
use Rattle.lists.specs.Lists.{map_from}
use Rattle.server.specs.Table.{Function, Job, Table, no_row, no_job, no_function, with_row, live, wanted, with_connections, with_ids, with_hub, with_functions, with_jobs, rows_of, ables_of}
use Rattle.server.specs.Events.{Send, lost, unless_lost, dropped, woken, forgot, noop, settle, woken_in, to_wake_in}
use Rattle.lists.proofs.Cases.{All2}
use Rattle.plan.specs.declared.Values as V'
use Rattle.plan.specs.Values.{values_of}
use Rattle.plan.specs.Settling.{dropped_rows, wanted_in, settled_values}
use Rattle.plan.proofs.Numbers.{dropped_rows_lem, wake_values, settled_values_lem}
use Rattle.plan.specs.Parts.{rowed, rowed_all, able_all, final_table}

-- ---- what agrees

-- a job j, and a job k that has its texts: an unfinished j has those of k, and a free place is empty
pub record SameJob (j k : Job) : Type 0 where
  pub unfinished : live j.row ≡ true → with_row j.row k ≡ j
  pub free : live j.row ≡ false → j ≡ no_job

pub record SameTexts (u s : Table) : Type 0 where
  pub ids : u.ids ≡ s.ids
  pub hub : u.hub ≡ s.hub
  pub functions : All2 (λ (x y : Function). x.name ≡ y.name) u.functions s.functions
  pub jobs : All2 SameJob u.jobs s.jobs

-- ---- jobs

unlost : (j k : Job) → SameJob j k → unless_lost j ≡ rowed (cond (lost j.row) no_row j.row) k
unlost j k e = go (lost j.row) (live j.row) refl
  where
    go : (l b : Bool) → live j.row ≡ b → cond l no_job j ≡ rowed (cond l no_row j.row) k
    go true b q = refl
    go false true q = rw q (sym (e.unfinished q))
    go false false q = rw q (e.free q)

rowed_jobs : {js ks : List Job} → All2 SameJob js ks → map unless_lost js ≡ rowed_all (dropped_rows (map (λ (j : Job). j.row) js)) ks
unfolding dropped_rows
rowed_jobs All2.none = refl
rowed_jobs (All2.more {a = j} {b = k} e r) = ap₂ ◌∷◌ (unlost j k e) (rowed_jobs r)

-- ---- functions

able_wanted : (rs : List JobRow) (ables : List ℕ) (q : ℕ) {fs xs : List Function}
    → ((k : ℕ) → get_or ables (q + k) 0 ≡ get_or (map (λ (x : Function). x.able) fs) k 0)
    → All2 (λ (x y : Function). x.name ≡ y.name) fs xs
    → map_from (λ p x. cond (wanted rs p x.able) x no_function) q fs ≡ able_all ables rs q (map (λ (x : Function). x.able) fs) xs
able_wanted rs ables q ea All2.none = refl
able_wanted rs ables q ea (All2.more {a = f} {b = x} {xs = fs} e r) =
    let here : get_or ables q 0 ≡ f.able = ap (λ (k : ℕ). get_or ables k 0) (sym (add-zero q)) ∙ ea 0 in
    let test : wanted rs q f.able ≡ wanted_in ables rs q = ap (wanted rs q) (sym here) in
    ap₂ ◌∷◌ (rw (test, e)) (able_wanted rs ables (suc q) (λ k. ap (λ (m : ℕ). get_or ables m 0) (suc-add q k ∙ sym (add-suc q k)) ∙ ea (suc k)) r)

-- ---- the whole

module _ (u s : Table) (same : SameTexts u s) where
  -- the table that settling leaves
  pub settled_table : forgot (woken (dropped u)) ≡ final_table (values_of u) s
  unfolding forgot dropped final_table settled_values values_of
  settled_table = λ i.
      let rs : List JobRow = dropped_rows_lem u.jobs i in
      with_hub (same.hub i) (with_ids (same.ids i) (with_jobs (rowed_jobs same.jobs i) (with_connections (woken_in (ables_of u) rs u.connections)
      (with_functions ((ap (λ (l : List JobRow). map_from (λ q x. cond (wanted l q x.able) x no_function) 0 u.functions) (dropped_rows_lem u.jobs)
      ∙ able_wanted (dropped_rows (rows_of u)) (ables_of u) 0 (λ k. ap (λ (m : ℕ). get_or (ables_of u) m 0) (zero-add k)) same.functions) i) u))))

  pub settled_plan : (ss : List Send)
      → settle ss u ≡ record { number = 0; packets = ss ++ map noop (to_wake_in (ables_of u) (dropped_rows (rows_of u)) u.connections); table = final_table (values_of u) s }
  unfolding settle
  settled_plan ss = λ i. record { number = 0; packets = ss ++ map noop (wake_values u i); table = settled_table i }

  -- its numbers are the settled ones
  pub final_values : values_of (final_table (values_of u) s) ≡ settled_values (values_of u)
  unfolding settle
  final_values = ap values_of (sym settled_table) ∙ settled_values_lem [] u
