-- The numbers of a table by place: a job's row, the connections able to do a function, and where a test among rows passes.
-- Assumes nothing.
use Prim.Native.Nat.{ℕ, ◌<◌}
use mathlib.Core.Path.{◌≡◌}
use mathlib.Core.Bool.{Bool, true}
use lib.ListN.{length, get_or, length-map, get_or-map}
use Rattle.lists.specs.Lists.{any}
use Rattle.lists.proofs.Rows.{any_at, any_where}
use Rattle.server.specs.declared.JobRow.{JobRow}
use Rattle.server.specs.Table.{Function, Job, Table, no_row, no_job, no_function, function_at, job_at, rows_of, ables_of}

module _ (t : Table) where
  pub row_at : (p : ℕ) → get_or (rows_of t) p no_row ≡ (job_at t p).row
  row_at p = get_or-map (λ (j : Job). j.row) t.jobs p no_job

  pub able_at_lem : (q : ℕ) → get_or (ables_of t) q 0 ≡ (function_at t q).able
  able_at_lem q = get_or-map (λ (x : Function). x.able) t.functions q no_function

  pub rows_long : length (rows_of t) ≡ length t.jobs
  rows_long = length-map t.jobs (λ (j : Job). j.row)

  pub ables_long : length (ables_of t) ≡ length t.functions
  ables_long = length-map t.functions (λ (x : Function). x.able)

  module _ (test : JobRow → Bool) where
    pub row_passes : (i : ℕ) → i < length t.jobs → test (job_at t i).row ≡ true → any test (rows_of t) ≡ true
    row_passes i l e = any_at test (rows_of t) i no_row (rw rows_long l) (rw (row_at i) e)

    pub row_where : any test (rows_of t) ≡ true → (i : ℕ) × (i < length t.jobs) × (test (job_at t i).row ≡ true)
    row_where e = let (i, l, g) = any_where test (rows_of t) no_row e in (i, rw rows_long at l, rw (row_at i) at g)
