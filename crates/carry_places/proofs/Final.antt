-- Every place laid with the settled numbers over the bytes of a table: the bytes of the table that they make. Assumes nothing.
use Prim.Native.Nat.{ℕ, zero, suc, ◌+◌, ◌≤◌}
use mathlib.Core.Path.{◌≡◌, refl, sym, ap, ap₂, ◌∙◌}
use mathlib.Core.Bool.{Bool, false, cond}
use mathlib.Core.List.{List, [], ◌∷◌}
use native.Mathlib.Nat.{add-zero, zero-add}
use native.Mathlib.Omega.{arith}
use lib.ListN.{length, get_or}
use Rattle.octets.specs.Bytes.{Bytes}
use Rattle.octets.specs.Put.{put}
use Rattle.server.specs.declared.Connection.{Connection}
use Rattle.server.specs.declared.JobRow.{JobRow}
use Rattle.lists.specs.Lists.{map_from}
use Rattle.server.specs.Sizes.{connection_count, function_count, job_count}
use Rattle.server.specs.Table.{Function, Job, Table, closed, no_row, no_function, with_last_serial, with_connections, with_functions, with_jobs, with_able}
use Rattle.server.specs.Layout.{little, bytes_of}
use Rattle.lists.proofs.Rows.{length_map_from}
use Rattle.table_laws.proofs.Puts.{put_last}
use Rattle.plan.specs.declared.Values.{Values}
use Rattle.plan.specs.Settling.{wanted_in, wanted_marks, settled_values}
use Rattle.plan.specs.Parts.{rowed, rowed_all, able_all, final_table}
use Rattle.lists.proofs.Lists.{number_made}
use Rattle.carry_places.specs.Laying.{laid_job, laid_function, laid_flags}
use Rattle.carry_places.specs.Written.{laid_jobs, laid_functions, laid_connections, written}
use Rattle.carry_places.proofs.Laid.{Whole, whole_last, whole_functions, whole_jobs, job_laid, function_laid, flags_laid}
use Rattle.carry_places.proofs.Each.{each_job, each_function, each_connection, each_laid, all_jobs, all_functions, all_connections, job_whole, function_whole, connection_whole}

-- ---- a list given place by place

-- entry k of a longer list is entry 0 of the rest, and so on
abbrev Rest : {A : Type 0} → A → List A → ℕ → List A → Type 0
Rest d l k m = (i : ℕ) → get_or l (k + i) d ≡ get_or m i d

rest_first : {A : Type 0} (d : A) (l : List A) (k : ℕ) (x : A) (m : List A) → Rest d l k (x ∷ m) → get_or l k d ≡ x
rest_first d l k x m e = ap (λ (n : ℕ). get_or l n d) (sym (add-zero k)) ∙ e 0

rest_next : {A : Type 0} (d : A) (l : List A) (k : ℕ) (x : A) (m : List A) → Rest d l k (x ∷ m) → Rest d l (suc k) m
rest_next d l k x m e i = let n : suc k + i ≡ k + suc i = omega arith in ap (λ (j : ℕ). get_or l j d) n ∙ e (suc i)

rest_all : {A : Type 0} (d : A) (l : List A) → Rest d l 0 l
rest_all d l i = ap (λ (n : ℕ). get_or l n d) (zero-add i)

-- ---- the three columns of places

new_job : List JobRow → ℕ → Job → Job
new_job rs p j = rowed (get_or rs p no_row) j

jobs_rowed : (all rs : List JobRow) (k : ℕ) (js : List Job) → length rs ≡ length js → Rest no_row all k rs → map_from (new_job all) k js ≡ rowed_all rs js
unfolding new_job
jobs_rowed all [] k [] e r = refl
jobs_rowed all [] k (j ∷ js) e r = absurd (omega arith)
jobs_rowed all (x ∷ rs) k [] e r = absurd (omega arith)
jobs_rowed all (x ∷ rs) k (j ∷ js) e r = ap₂ ◌∷◌ (ap (λ (y : JobRow). rowed y j) (rest_first no_row all k x rs r)) (jobs_rowed all rs (suc k) js (omega arith) (rest_next no_row all k x rs r))

new_function : List Bool → List ℕ → ℕ → Function → Function
new_function ms ss q x = cond (get_or ms q false) (with_able (get_or ss q 0) x) no_function

functions_able : (ables : List ℕ) (rs : List JobRow) (all ss : List ℕ) (k : ℕ) (fs : List Function) → length ss ≡ length fs → k + length fs ≤ function_count → Rest 0 all k ss
    → map_from (new_function (wanted_marks ables rs) all) k fs ≡ able_all ables rs k ss fs
unfolding new_function wanted_marks
functions_able ables rs all [] k [] e h r = refl
functions_able ables rs all [] k (x ∷ fs) e h r = absurd (omega arith)
functions_able ables rs all (s ∷ ss) k [] e h r = absurd (omega arith)
functions_able ables rs all (s ∷ ss) k (x ∷ fs) e h r =
    ap₂ ◌∷◌
    (ap₂ (λ (m : Bool) (n : ℕ). cond m (with_able n x) no_function) (number_made (wanted_in ables rs) false 0 function_count k (omega arith) ∙ ap (wanted_in ables rs) (zero-add k)) (rest_first 0 all k s ss r))
    (functions_able ables rs all ss (suc k) fs (omega arith) (omega arith) (rest_next 0 all k s ss r))

new_connection : List Connection → ℕ → Connection → Connection
new_connection cs c x = get_or cs c closed

connections_given : (all cs : List Connection) (k : ℕ) (xs : List Connection) → length cs ≡ length xs → Rest closed all k cs → map_from (new_connection all) k xs ≡ cs
unfolding new_connection
connections_given all [] k [] e r = refl
connections_given all [] k (x ∷ xs) e r = absurd (omega arith)
connections_given all (y ∷ cs) k [] e r = absurd (omega arith)
connections_given all (y ∷ cs) k (x ∷ xs) e r = ap₂ ◌∷◌ (rest_first closed all k y cs r) (connections_given all cs (suc k) xs (omega arith) (rest_next closed all k y cs r))

-- ---- the whole

module _ (v : Values) (s : Table) (w : Whole s) (b : Bytes) (u : Values) (eu : u ≡ settled_values v)
    (lc : length u.connections ≡ connection_count) (la : length u.able ≡ function_count) (lr : length u.rows ≡ job_count) where
  marks : List Bool
  marks = wanted_marks u.able u.rows

  t₀ : Table
  t₀ = with_last_serial u.last s

  t₁ : Table
  t₁ = with_jobs (map_from (new_job u.rows) 0 s.jobs) t₀

  t₂ : Table
  t₂ = with_functions (map_from (new_function marks u.able) 0 s.functions) t₁

  t₃ : Table
  t₃ = with_connections (map_from (new_connection u.connections) 0 s.connections) t₂

  w₀ : Whole t₀
  unfolding t₀
  w₀ = whole_last s w u.last

  w₁ : Whole t₁
  unfolding t₀ t₁
  w₁ = whole_jobs t₀ w₀ _ (length_map_from (new_job u.rows) 0 s.jobs)

  w₂ : Whole t₂
  unfolding t₀ t₁ t₂
  w₂ = whole_functions t₁ w₁ _ (length_map_from (new_function marks u.able) 0 s.functions)

  jobs_laid : laid_jobs u.rows (put 0 (bytes_of t₀) b) ≡ put 0 (bytes_of t₁) b
  unfolding new_job t₀ t₁
  jobs_laid =
      each_laid (λ p. laid_job (get_or u.rows p no_row) p) (each_job (new_job u.rows)) job_count b
      (λ p x y h. job_laid x y b (get_or u.rows p no_row) p h) (job_whole (new_job u.rows)) 0 job_count t₀ w₀ (omega arith)
      ∙ ap (λ (x : Table). put 0 (bytes_of x) b) (all_jobs (new_job u.rows) job_count t₀ w.jobs)

  functions_laid : laid_functions marks u.able (put 0 (bytes_of t₁) b) ≡ put 0 (bytes_of t₂) b
  unfolding new_function t₀ t₁ t₂
  functions_laid =
      each_laid (λ q. laid_function (get_or marks q false) (get_or u.able q 0) q) (each_function (new_function marks u.able)) function_count b
      (λ q x y h. function_laid x y b (get_or marks q false) (get_or u.able q 0) q h) (function_whole (new_function marks u.able)) 0 function_count t₁ w₁ (omega arith)
      ∙ ap (λ (x : Table). put 0 (bytes_of x) b) (all_functions (new_function marks u.able) function_count t₁ w.functions)

  connections_laid : laid_connections u.connections (put 0 (bytes_of t₂) b) ≡ put 0 (bytes_of t₃) b
  unfolding new_connection t₀ t₁ t₂ t₃
  connections_laid =
      each_laid (λ c. laid_flags c (get_or u.connections c closed)) (each_connection (new_connection u.connections)) connection_count b
      (λ c x y h. flags_laid x y b c (get_or u.connections c closed) h) (connection_whole (new_connection u.connections)) 0 connection_count t₂ w₂ (omega arith)
      ∙ ap (λ (x : Table). put 0 (bytes_of x) b) (all_connections (new_connection u.connections) connection_count t₂ w.connections)

  final_is : t₃ ≡ final_table v s
  unfolding final_table marks t₀ t₁ t₂ t₃
  final_is =
      ap (λ (js : List Job). with_connections (map_from (new_connection u.connections) 0 s.connections) (with_functions (map_from (new_function (wanted_marks u.able u.rows) u.able) 0 s.functions) (with_jobs js (with_last_serial u.last s))))
      (jobs_rowed u.rows u.rows 0 s.jobs (lr ∙ sym w.jobs) (rest_all no_row u.rows))
      ∙ ap₂ (λ (fs : List Function) (cs : List Connection). with_connections cs (with_functions fs (with_jobs (rowed_all u.rows s.jobs) (with_last_serial u.last s))))
      (functions_able u.able u.rows u.able u.able 0 s.functions (la ∙ sym w.functions) (omega (arith, w.functions)) (rest_all 0 u.able))
      (connections_given u.connections u.connections 0 s.connections (lc ∙ sym w.connections) (rest_all closed u.connections))
      ∙ ap (λ (x : Values). with_last_serial x.last (with_connections x.connections (with_functions (able_all x.able x.rows 0 x.able s.functions) (with_jobs (rowed_all x.rows s.jobs) s)))) eu

  pub final_bytes : written u (put 0 (bytes_of s) b) ≡ put 0 (bytes_of (final_table v s)) b
  unfolding written marks t₀
  final_bytes =
      ap (λ (x : Bytes). laid_connections u.connections (laid_functions (wanted_marks u.able u.rows) u.able (laid_jobs u.rows x))) (put_last s b u.last)
      ∙ ap (λ (x : Bytes). laid_connections u.connections (laid_functions (wanted_marks u.able u.rows) u.able x)) jobs_laid
      ∙ ap (laid_connections u.connections) functions_laid
      ∙ connections_laid
      ∙ ap (λ (x : Table). put 0 (bytes_of x) b) final_is
