-- One place laid over the bytes of a table is the table with that place put anew: the laws of `table_laws`, for a table of the product's size.
-- Assumes nothing.
use Prim.Native.Nat.{ℕ, ◌%◌, ◌<◌}
use mathlib.Core.Path.{◌≡◌, sym, ap, ◌∙◌}
use mathlib.Core.Bool.{Bool, true, false, cond}
use mathlib.Core.List.{List, [], ◌∷◌}
use lib.ListN.{length, set}
use mir.Val.{bool_byte}
use native.Mathlib.Omega.{arith}
use Rattle.octets.specs.Bytes.{Bytes}
use Rattle.octets.specs.Put.{put}
use Rattle.octets.proofs.Laying.{put_one}
use Rattle.lists.proofs.Rows.{set_own}
use Rattle.server.specs.declared.Connection.{Connection}
use Rattle.server.specs.declared.JobRow.{JobRow}
use Rattle.server.specs.Sizes.{connection_count, function_count, job_count}
use Rattle.server.specs.Table.{Function, Job, Table, no_job, no_function, function_at, job_at, set_connection, set_function, set_job, with_last_serial, with_connections, with_ids, with_functions, with_jobs, with_able, with_row, with_texts, live}
use Rattle.server.specs.Layout.{little, flag_byte, bytes_of}
use Rattle.table_laws.proofs.Puts.{Sized, put_job, put_row_lem, put_numbers, put_function, put_able, put_connection}
use Rattle.plan.specs.Parts.{rowed}
use Rattle.carry_places.specs.Laying.{laid_row, laid_free, laid_job, laid_zeros, laid_forgotten, laid_function, laid_flags}

-- a table of the product's size
pub record Whole (t : Table) : Type 0 where
  pub connections : length t.connections ≡ connection_count
  pub ids : length t.ids ≡ connection_count
  pub functions : length t.functions ≡ function_count
  pub jobs : length t.jobs ≡ job_count

-- with one part anew it is as long
module _ (t : Table) (w : Whole t) where
  pub whole_last : (s : ℕ) → Whole (with_last_serial s t)
  whole_last s = record { connections = w.connections; ids = w.ids; functions = w.functions; jobs = w.jobs }

  pub whole_connections : (cs : List Connection) → length cs ≡ length t.connections → Whole (with_connections cs t)
  whole_connections cs e = record { connections = e ∙ w.connections; ids = w.ids; functions = w.functions; jobs = w.jobs }

  pub whole_ids : (is : List Bytes) → length is ≡ length t.ids → Whole (with_ids is t)
  whole_ids is e = record { connections = w.connections; ids = e ∙ w.ids; functions = w.functions; jobs = w.jobs }

  pub whole_functions : (fs : List Function) → length fs ≡ length t.functions → Whole (with_functions fs t)
  whole_functions fs e = record { connections = w.connections; ids = w.ids; functions = e ∙ w.functions; jobs = w.jobs }

  pub whole_jobs : (js : List Job) → length js ≡ length t.jobs → Whole (with_jobs js t)
  whole_jobs js e = record { connections = w.connections; ids = w.ids; functions = w.functions; jobs = e ∙ w.jobs }

-- ---- one byte

pub byte_put : (b : Bytes) (at x : ℕ) → x < 256 → set b at x ≡ put at (little 1 x) b
unfolding little
byte_put b at x h = let e : x ≡ x % 256 = omega arith in put_one at x b ∙ ap (λ (y : ℕ). put at (y ∷ []) b) e

pub flag_put : (b : Bytes) (at : ℕ) (x : Bool) → set b at (bool_byte x) ≡ put at (flag_byte x) b
flag_put b at true = put_one at 1 b
flag_put b at false = put_one at 0 b

-- ---- one place

module _ (t : Table) (w : Whole t) (b : Bytes) where
  sized : Sized t
  sized = record { functions = w.functions; jobs = w.jobs }

  pub row_laid : (p : ℕ) (r : JobRow) → p < job_count → laid_row p r (put 0 (bytes_of t) b) ≡ put 0 (bytes_of (set_job t p (with_row r (job_at t p)))) b
  unfolding laid_row
  row_laid p r h = rw w.connections at (put_row_lem t sized b p h r)

  pub free_laid : (p : ℕ) → p < job_count → laid_free p (put 0 (bytes_of t) b) ≡ put 0 (bytes_of (set_job t p no_job)) b
  unfolding laid_row laid_free
  free_laid p h = rw w.connections at (put_job t sized b p h no_job)

  pub job_laid : (r : JobRow) (p : ℕ) → p < job_count → laid_job r p (put 0 (bytes_of t) b) ≡ put 0 (bytes_of (set_job t p (rowed r (job_at t p)))) b
  unfolding laid_job
  job_laid r p h = go (live r)
    where
      go : (m : Bool) → cond m (laid_row p r (put 0 (bytes_of t) b)) (laid_free p (put 0 (bytes_of t) b)) ≡ put 0 (bytes_of (set_job t p (cond m (with_row r (job_at t p)) no_job))) b
      go true = row_laid p r h
      go false = free_laid p h

  pub zeros_laid : (m : Bool) (p : ℕ) → p < job_count
      → laid_zeros m p (put 0 (bytes_of t) b) ≡ put 0 (bytes_of (set_job t p (cond m (with_texts (48 ∷ []) (48 ∷ []) (job_at t p)) (job_at t p)))) b
  unfolding laid_zeros
  zeros_laid true p h = put_numbers t sized b p h (48 ∷ []) (48 ∷ [])
  zeros_laid false p h = ap (λ (js : List Job). put 0 (bytes_of (with_jobs js t)) b) (sym (set_own t.jobs p no_job))

  pub forgotten_laid : (q : ℕ) → q < function_count → laid_forgotten q (put 0 (bytes_of t) b) ≡ put 0 (bytes_of (set_function t q no_function)) b
  unfolding laid_forgotten
  forgotten_laid q h = rw w.connections at (put_function t sized b q h no_function)

  pub function_laid : (m : Bool) (s q : ℕ) → q < function_count → laid_function m s q (put 0 (bytes_of t) b) ≡ put 0 (bytes_of (set_function t q (cond m (with_able s (function_at t q)) no_function))) b
  unfolding laid_function
  function_laid true s q h = rw w.connections at (put_able t sized b q h s)
  function_laid false s q h = forgotten_laid q h

  pub flags_laid : (c : ℕ) (x : Connection) → c < connection_count → laid_flags c x (put 0 (bytes_of t) b) ≡ put 0 (bytes_of (set_connection t c x)) b
  unfolding laid_flags
  flags_laid c x h = rw w.connections at (put_connection t sized b c (rw w.connections h) x)
