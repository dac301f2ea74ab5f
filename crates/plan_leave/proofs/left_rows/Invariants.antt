-- `plan_leave::left_rows` meets its contract. The invariant: the first i rows are as the connection leaves them. Assumes nothing.
use Prim.Native.Nat.{◌≤◌}
use mathlib.Core.Path.{◌≡◌}
use mathlib.Core.List.{map}
use lib.ListN.{length, take}
use Rattle.server.specs.Sizes.{job_count}
use Rattle.plan.specs.Parts.{left_row}
use Rattle.plan_leave.proofs.left_rows.Given as goal

abbrev pub invariant-loop-i : goal.invariant-loop-i
invariant-loop-i l = (l.i ≤ job_count) × (length l.next ≡ 32) × (take l.i l.next ≡ take l.i (map (left_row l.c) l.rows))
