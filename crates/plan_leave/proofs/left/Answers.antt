-- `plan_leave::left` meets its contract: the connection's row, each set and each job's row without it. Assumes nothing.
use Rattle.plan_leave.proofs.left.Goals as goal

pub returns : goal.returns
returns c = rw (c.left_rows.ensures, c.unable_all.ensures, c.set_connection-connections.ensures, c.closed.ensures)
