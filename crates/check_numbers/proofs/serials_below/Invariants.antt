-- `check_numbers::serials_below` meets its contract. The invariant: the flag says what the rows passed say. Assumes nothing.
use mathlib.Core.Path.{◌≡◌}
use Rattle.lists.specs.Lists.{all, numbers}
use Rattle.check_numbers.specs.Numbers.{serial_below}
use Rattle.check_numbers.proofs.serials_below.Given as goal

abbrev pub invariant-loop-i : goal.invariant-loop-i
invariant-loop-i l = l.ok ≡ all (serial_below l.table l.last) (numbers 0 l.i)
