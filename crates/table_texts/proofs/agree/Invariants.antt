-- `table_texts::agree` meets its contract. The invariant: the flag says whether the first i bytes agree. Assumes nothing.
use mathlib.Core.Path.{◌≡◌}
use Rattle.table_texts.specs.Places.{agree}
use Rattle.table_texts.proofs.agree.Given as goal

abbrev pub invariant-loop-i : goal.invariant-loop-i
invariant-loop-i g l = l.ok ≡ agree l.i l.s l.t
