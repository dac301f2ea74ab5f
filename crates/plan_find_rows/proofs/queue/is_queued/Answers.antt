-- `plan_find_rows::queue::is_queued` meets its contract: a serial, and no holder. Assumes nothing.
use Rattle.plan_find_rows.proofs.queue.is_queued.Goals as goal

pub returns : goal.returns
returns c = rw (c.serial.ensures, c.holder.ensures)
