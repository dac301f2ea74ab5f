-- `plan_find_rows::queue::is_able` meets its contract: the set of the row's function is asked. Assumes nothing.
use Rattle.plan.specs.Values.{values_of}
use Rattle.plan_find_rows.proofs.queue.is_able.Goals as goal

pub returns : goal.returns
unfolding values_of
returns c = rw (c.has.ensures, c.able_at.ensures, c.wide-function.ensures.0)
