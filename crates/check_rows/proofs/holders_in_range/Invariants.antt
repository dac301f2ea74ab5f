-- `check_rows::holders_in_range` meets its contract. The invariant: the flag says what the rows passed say. Assumes nothing.
use Prim.Native.Nat.{◌≤◌}
use mathlib.Core.Path.{◌≡◌}
use Rattle.lists.specs.Lists.{all, numbers}
use Rattle.server.specs.Sizes.{job_count}
use Rattle.check_rows.specs.Rows.{holder_in_range}
use Rattle.check_rows.proofs.holders_in_range.Given as goal

abbrev pub invariant-loop-i : goal.invariant-loop-i
invariant-loop-i l = (l.i ≤ job_count) × (l.ok ≡ all (holder_in_range l.table) (numbers 0 l.i))
