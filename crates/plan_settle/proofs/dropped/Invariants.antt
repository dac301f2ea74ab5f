-- `plan_settle::dropped` meets its contract. The invariant: the first i rows are made.
-- Assumes nothing.
use Prim.Native.Nat.{◌≤◌}
use mathlib.Core.Path.{◌≡◌}
use lib.ListN.{length, take}
use Rattle.server.specs.Sizes.{job_count}
use Rattle.plan.specs.Settling.{dropped_rows}
use Rattle.plan_settle.proofs.dropped.Given as goal

abbrev pub invariant-loop-i : goal.invariant-loop-i
invariant-loop-i l = (l.i ≤ job_count) × (length l.kept ≡ 32) × (take l.i l.kept ≡ take l.i (dropped_rows l.rows))
