-- `handle::count_digits` meets its contract. The invariant: all digits are those counted and those that are left before them.
-- Assumes nothing.
use Prim.Native.Nat.{◌+◌, ◌-◌}
use mathlib.Core.Path.{◌≡◌}
use lib.ListN.{length}
use Rattle.handle.specs.Handle.{decimal_in}
use Rattle.handle.proofs.count_digits.Given as goal

abbrev pub invariant-loop-count : goal.invariant-loop-count
invariant-loop-count l = (length (decimal_in l.most l.number) ≡ l.count + length (decimal_in (l.most - l.count) l.left))
