-- `check_survey::all_surveyed` meets its contract: group after group. The invariant: the survey says what the rows before this group say. Assumes nothing.
use Prim.Native.Nat.{◌≤◌, ◌-◌, ◌%◌}
use mathlib.Core.Path.{◌≡◌}
use Rattle.check_survey.specs.Surveyed.{Surveyed}
use Rattle.server.specs.Sizes.{job_count}
use Rattle.check_survey.proofs.all_surveyed.Given as goal

abbrev pub invariant-loop-p : goal.invariant-loop-p
invariant-loop-p l = (l.p ≤ job_count) × (l.p % 8 ≡ 0) × Surveyed l.table l.p l.v

abbrev pub decreases-loop-p : goal.decreases-loop-p
decreases-loop-p l = 32 - l.p
