-- `plan_settle::able_for` meets its contract. Assumes nothing.
use Rattle.plan.specs.Busy.{able_for}
use Rattle.plan_settle.proofs.able_for.Goals as goal

pub returns-then-is_queued : goal.returns-then-is_queued
unfolding able_for
returns-then-is_queued c = rw (← c.is_queued.ensures, c.if-is_queued.true, c.able_to.ensures)

pub returns : goal.returns
unfolding able_for
returns c = rw (← c.is_queued.ensures, c.if-is_queued.false)
