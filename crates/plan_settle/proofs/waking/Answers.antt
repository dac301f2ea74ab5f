-- `plan_settle::waking` meets its contract. Assumes nothing.
use Rattle.plan.specs.Busy.{wakes_now}
use Rattle.plan_settle.proofs.waking.Goals as goal

pub returns-then-x-has : goal.returns-then-x-has
unfolding wakes_now
returns-then-x-has c = rw (← c.has.ensures, c.if-x-has.true, c.insert.ensures)

pub returns : goal.returns
unfolding wakes_now
returns c = rw (← c.has.ensures, c.if-x-has.false)
