-- `call_serve::plan_open_or_close` meets its contract, by the two cases. Assumes nothing.
use Rattle.call_serve.proofs.plan_open_or_close.Goals as goal

pub returns-then-to_open : goal.returns-then-to_open
returns-then-to_open c = rw c.if-to_open.true c.«open».ensures

pub returns-else-to_open : goal.returns-else-to_open
returns-else-to_open c = rw c.if-to_open.false c.close.ensures
