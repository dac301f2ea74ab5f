-- `check_rows::free_or_awaited` meets its contract. The invariant: the flag says what the rows passed say. Assumes nothing.
use Prim.Native.Nat.{◌≤◌}
use mathlib.Core.Path.{◌≡◌}
use Rattle.lists.specs.Lists.{all, numbers}
use Rattle.server.specs.Sizes.{job_count}
use Rattle.check_rows.specs.Rows.{free_or_awaited}
use Rattle.check_rows.proofs.free_or_awaited.Given as goal

abbrev pub invariant-loop-i : goal.invariant-loop-i
invariant-loop-i l = (l.i ≤ job_count) × (l.ok ≡ all (free_or_awaited l.live l.heard l.held l.sized l.table) (numbers 0 l.i))
