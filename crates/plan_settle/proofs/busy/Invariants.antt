-- `plan_settle::busy` meets its contract. The invariant: the union over all rows is that of s and the rows from row i on.
-- Assumes nothing.
use Prim.Native.Nat.{◌≤◌, ◌-◌}
use mathlib.Core.Path.{◌≡◌}
use lib.ListN.{drop}
use Rattle.server.specs.Sizes.{job_count}
use Rattle.plan.specs.Busy.{unions, able_for, busy_set}
use Rattle.plan_settle.proofs.busy.Given as goal

abbrev pub invariant-loop-r : goal.invariant-loop-r
invariant-loop-r l = (l.r-index ≤ job_count) × (busy_set l.able l.fn.rows ≡ unions (λ k r. able_for l.able r) l.s l.r-index (drop l.r-index l.fn.rows))
