-- `plan_settle::name_of` meets its contract: the test keeps the place below 16. Assumes nothing.
use mathlib.Core.Bool.{not}
use native.Mathlib.Omega.{arith}
use borrow.Author.Tests.{ltb-true}
use lib.Dec.{eqb, ltb}
use Rattle.octets.proofs.Strings.{and_right}
use Rattle.plan.specs.Busy.{name_of}
use Rattle.plan_settle.proofs.name_of.Goals as goal

pub insert-requires : goal.insert-requires
insert-requires c =
    omega (arith, ltb-true c.args.r.function 16 (and_right (not (eqb c.args.r.serial 0)) (ltb c.args.r.function 16) c.if-r-q.true))

pub returns-then-r-q : goal.returns-then-r-q
unfolding name_of
returns-then-r-q c = rw (c.if-r-q.true, c.insert.ensures)

pub returns : goal.returns
unfolding name_of
returns c = rw c.if-r-q.false
