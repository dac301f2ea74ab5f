-- `check_numbers::busy` meets its contract. The invariant: the set is the union of what the functions passed add. Assumes nothing.
use Rattle.table_passes.specs.Unions.{Joined}
use Rattle.check_numbers.specs.Numbers.{able_if}
use Rattle.check_numbers.proofs.busy.Given as goal

abbrev pub invariant-loop-q : goal.invariant-loop-q
invariant-loop-q l = Joined (able_if l.table l.queued) l.q l.s
