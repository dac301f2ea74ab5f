-- `carry_places::put_jobs` meets its contract. The invariant: the jobs from p on are left to lay. Assumes nothing.
use Prim.Native.Nat.{◌≤◌, ◌-◌}
use mathlib.Core.Path.{◌≡◌}
use lib.ListN.{length, get_or}
use Rattle.server.specs.Sizes.{job_count}
use Rattle.server.specs.Table.{no_row}
use Rattle.carry_places.specs.Laying.{laid_job, laid_each}
use Rattle.carry_places.proofs.put_jobs.Given as goal

abbrev pub invariant-loop-p : goal.invariant-loop-p
invariant-loop-p l = laid_each (λ k. laid_job (get_or l.rows k no_row) k) 0 job_count l.initial.table ≡ laid_each (λ k. laid_job (get_or l.rows k no_row) k) l.p (job_count - l.p) l.table
