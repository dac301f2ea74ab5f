-- `check_texts::one_digit_each` meets its contract. The invariant: what was found is zero exactly if no byte passed is one too many. Assumes nothing.
use mathlib.Core.Path.{◌≡◌}
use lib.Dec.{eqb}
use Rattle.lists.specs.Lists.{all, numbers}
use Rattle.check_texts.specs.Stored.{first_alone}
use Rattle.check_texts.proofs.one_digit_each.Given as goal

abbrev pub invariant-loop-i : goal.invariant-loop-i
invariant-loop-i l = (eqb l.found 0 ≡ all (first_alone l.first l.table) (numbers 0 l.i))
