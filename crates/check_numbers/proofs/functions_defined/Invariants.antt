-- `check_numbers::functions_defined` meets its contract. The invariant: the flag says what the functions passed say. Assumes nothing.
use mathlib.Core.Path.{◌≡◌}
use Rattle.lists.specs.Lists.{all, numbers}
use Rattle.check_numbers.specs.Numbers.{is_defined}
use Rattle.check_numbers.proofs.functions_defined.Given as goal

abbrev pub invariant-loop-q : goal.invariant-loop-q
invariant-loop-q l = l.ok ≡ all (is_defined l.table l.named) (numbers 0 l.q)
