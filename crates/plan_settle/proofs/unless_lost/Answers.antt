-- `plan_settle::unless_lost` meets its contract. Assumes nothing.
use Rattle.plan_settle.proofs.unless_lost.Goals as goal

pub returns-then-is_lost : goal.returns-then-is_lost
returns-then-is_lost c = rw (← c.is_lost.ensures, c.if-is_lost.true) c.no_row.ensures

pub returns : goal.returns
returns c = rw (← c.is_lost.ensures, c.if-is_lost.false)
