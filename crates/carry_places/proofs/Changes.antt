-- The texts of each kind of change, laid over the bytes of a table: the bytes of the table with the change. Assumes nothing.
use Prim.Native.Nat.{ℕ, zero, suc, ◌+◌, ◌*◌, ◌<◌}
use mathlib.Core.Path.{◌≡◌, refl, sym, ap, ap₂, ◌∙◌}
use mathlib.Core.Bool.{Bool, cond}
use mathlib.Core.List.{List, [], ◌∷◌, map}
use native.Mathlib.Nat.{add-zero, zero-add}
use native.Mathlib.Omega.{arith}
use lib.ListN.{length, get_or, length-set, length-map}
use Rattle.octets.specs.Bytes.{Bytes}
use Rattle.octets.specs.Put.{put}
use Rattle.server.specs.declared.JobRow.{JobRow}
use Rattle.lists.specs.Lists.{fit, map_from}
use Rattle.server.specs.Sizes.{connection_count, function_count, job_count, name_size, unique_size, id_size}
use Rattle.server.specs.Table.{Job, Table, no_row, no_job, function_at, job_at, with_jobs, set_id, set_function, with_name, with_texts, unstarted, held_by, rows_of}
use Rattle.server.specs.Layout.{bytes_of, names_at, uniques_at, ids_at}
use Rattle.plan.specs.declared.Change.TheVariants as CV
use Rattle.plan.specs.Parts.{changed}
use Rattle.table_laws.proofs.Puts.{put_name, put_numbers, put_texts, put_id}
use Rattle.carry_places.specs.Laying.{laid_numbers, laid_zeros}
use Rattle.carry_places.specs.Written.{laid_returned}
use Rattle.carry_places.proofs.Laid.{Whole, whole_jobs, zeros_laid}
use Rattle.carry_places.proofs.Each.{each_job, each_laid, all_jobs, job_whole}

module _ (t : Table) (w : Whole t) (b : Bytes) where
  -- ---- CAN_DO: the name of the function

  pub name_changed : (q : ℕ) (a u d : Bytes) → q < function_count → put (names_at + name_size * q) (fit name_size a) (put 0 (bytes_of t) b) ≡ put 0 (bytes_of (changed (CV.Name q) a u d t)) b
  unfolding changed
  name_changed q a u d h = put_name t (record { functions = w.functions; jobs = w.jobs }) b q h a

  -- ---- WORK_STATUS: the two texts

  pub texts_changed : (p : ℕ) (a n d : Bytes) → p < job_count
      → laid_numbers p n d (put 0 (bytes_of t) b) ≡ put 0 (bytes_of (changed (CV.Texts p) a n d t)) b
  unfolding changed
  texts_changed p a n d h = put_numbers t (record { functions = w.functions; jobs = w.jobs }) b p h n d

  -- ---- a new job: the function's name, its unique, `0` and `0`

  pub job_changed : (p q : ℕ) (a u d : Bytes) → p < job_count → q < function_count
      → laid_numbers p (48 ∷ []) (48 ∷ []) (put (uniques_at + unique_size * p) (fit unique_size u) (put (names_at + name_size * q) (fit name_size a) (put 0 (bytes_of t) b)))
      ≡ put 0 (bytes_of (changed (CV.Job p q) a u d t)) b
  unfolding changed
  job_changed p q a u d h k =
      let n : Table = set_function t q (with_name a (function_at t q)) in
      ap (λ (c : Bytes). laid_numbers p (48 ∷ []) (48 ∷ []) (put (uniques_at + unique_size * p) (fit unique_size u) c)) (name_changed q a u d k)
      ∙ put_texts n (record { functions = length-set t.functions q (with_name a (function_at t q)) ∙ w.functions; jobs = w.jobs }) b p h
      (unstarted (job_at t p).row u) refl

  -- ---- SET_CLIENT_ID

  id_laid : (u : Table) → Whole u → (c : ℕ) (i : Bytes) → c < connection_count → put (ids_at connection_count + id_size * c) (fit id_size i) (put 0 (bytes_of u) b) ≡ put 0 (bytes_of (set_id u c i)) b
  id_laid u v c i h = rw v.connections at (put_id u (record { functions = v.functions; jobs = v.jobs }) b c (rw v.ids h) i)

  pub id_changed : (c : ℕ) (a n d : Bytes) → c < connection_count → put (ids_at connection_count + id_size * c) (fit id_size a) (put 0 (bytes_of t) b) ≡ put 0 (bytes_of (changed (CV.Id c) a n d t)) b
  unfolding changed
  id_changed c a n d h = id_laid t w c a h

  -- ---- close: `0` and `0` for the jobs that the connection held, and no client id

  abbrev returned : ℕ → List JobRow → ℕ → Job → Job
  returned c rs p j = cond (held_by c (get_or rs p no_row)) (with_texts (48 ∷ []) (48 ∷ []) j) j

  -- rs are the rows of the table, of which those before place k are passed
  returned_all : (c : ℕ) (rs : List JobRow) (k : ℕ) (js : List Job) → ((i : ℕ) → i < length js → get_or rs (k + i) no_row ≡ (get_or js i no_job).row)
      → map_from (returned c rs) k js ≡ map (λ j. cond (held_by c j.row) (with_texts (48 ∷ []) (48 ∷ []) j) j) js
  returned_all c rs k [] e = refl
  returned_all c rs k (j ∷ js) e =
      ap₂ ◌∷◌ (ap (λ (r : JobRow). cond (held_by c r) (with_texts (48 ∷ []) (48 ∷ []) j) j) (ap (λ (m : ℕ). get_or rs m no_row) (sym (add-zero k)) ∙ e 0 (omega arith)))
      (returned_all c rs (suc k) js (λ i h. let m : suc k + i ≡ k + suc i = omega arith in ap (λ (n : ℕ). get_or rs n no_row) m ∙ e (suc i) (omega arith)))

  row_of : (js : List Job) (i : ℕ) → get_or (map (λ (j : Job). j.row) js) i no_row ≡ (get_or js i no_job).row
  row_of [] i = refl
  row_of (j ∷ js) zero = refl
  row_of (j ∷ js) (suc i) = row_of js i

  abbrev returned_jobs : ℕ → Table
  returned_jobs c = with_jobs (map (λ j. cond (held_by c j.row) (with_texts (48 ∷ []) (48 ∷ []) j) j) t.jobs) t

  returned_laid : (c : ℕ) → laid_returned c (rows_of t) (put 0 (bytes_of t) b) ≡ put 0 (bytes_of (returned_jobs c)) b
  returned_laid c =
      each_laid (λ p. laid_zeros (held_by c (get_or (rows_of t) p no_row)) p) (each_job (returned c (rows_of t))) job_count b
      (λ p u v h. zeros_laid u v b (held_by c (get_or (rows_of t) p no_row)) p h) (job_whole (returned c (rows_of t))) 0 job_count t w (omega arith)
      ∙ ap (λ (u : Table). put 0 (bytes_of u) b) (all_jobs (returned c (rows_of t)) job_count t w.jobs)
      ∙ ap (λ (js : List Job). put 0 (bytes_of (with_jobs js t)) b) (returned_all c (rows_of t) 0 t.jobs (λ i h. ap (λ (m : ℕ). get_or (rows_of t) m no_row) (zero-add i) ∙ row_of t.jobs i))

  pub left_changed : (c : ℕ) (a n d : Bytes) → c < connection_count
      → put (ids_at connection_count + id_size * c) (fit id_size []) (laid_returned c (rows_of t) (put 0 (bytes_of t) b)) ≡ put 0 (bytes_of (changed (CV.Left c) a n d t)) b
  unfolding changed
  left_changed c a n d h =
      ap (put (ids_at connection_count + id_size * c) (fit id_size [])) (returned_laid c) ∙ id_laid (returned_jobs c) (whole_jobs t w _ (length-map t.jobs _)) c [] h
