-- `plan_find_rows::queue::rank` meets its contract: priority and serial are the row's. Assumes nothing.
use Rattle.plan_find_rows.proofs.queue.rank.Goals as goal

pub returns : goal.returns
returns c = rw (c.wide-priority.ensures.0, c.serial.ensures)
