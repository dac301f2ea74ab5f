-- `check_numbers::connections_hold` meets its contract. The invariant: the flag says what the connections passed say. Assumes nothing.
use mathlib.Core.Path.{◌≡◌}
use Rattle.lists.specs.Lists.{all, numbers}
use Rattle.check_numbers.specs.Numbers.{connection_holds}
use Rattle.check_numbers.proofs.connections_hold.Given as goal

abbrev pub invariant-loop-c : goal.invariant-loop-c
invariant-loop-c l = l.ok ≡ all (connection_holds l.table l.used l.busy) (numbers 0 l.c)
