-- `plan_settle::named` meets its contract. The invariant: the union over all rows is that of s and the rows from row i on.
-- Assumes nothing.
use Prim.Native.Nat.{◌≤◌, ◌-◌}
use mathlib.Core.Path.{◌≡◌}
use lib.ListN.{drop}
use Rattle.server.specs.Sizes.{job_count}
use Rattle.plan.specs.Busy.{unions, name_of, named_set}
use Rattle.plan_settle.proofs.named.Given as goal

abbrev pub invariant-loop-r : goal.invariant-loop-r
invariant-loop-r l = (l.r-index ≤ job_count) × (named_set l.fn.rows ≡ unions (λ k r. name_of r) l.s l.r-index (drop l.r-index l.fn.rows))
