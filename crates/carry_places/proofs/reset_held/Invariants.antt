-- `carry_places::reset_held` meets its contract. The invariant: the jobs from p on are left to look at. Assumes nothing.
use Prim.Native.Nat.{◌≤◌, ◌-◌}
use mathlib.Core.Path.{◌≡◌}
use lib.ListN.{length, get_or}
use Rattle.server.specs.Sizes.{job_count}
use Rattle.server.specs.Table.{no_row, held_by}
use Rattle.carry_places.specs.Laying.{laid_zeros, laid_each}
use Rattle.carry_places.proofs.reset_held.Given as goal

abbrev pub invariant-loop-p : goal.invariant-loop-p
invariant-loop-p l = laid_each (λ k. laid_zeros (held_by l.c (get_or l.rows k no_row)) k) 0 job_count l.initial.table ≡ laid_each (λ k. laid_zeros (held_by l.c (get_or l.rows k no_row)) k) l.p (job_count - l.p) l.table
