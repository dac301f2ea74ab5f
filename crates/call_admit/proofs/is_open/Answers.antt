-- `call_admit::is_open` meets its contract: the flag is the byte at the connection's place. Assumes nothing.
use Rattle.call_admit.proofs.Refusals.{open_at}
use Rattle.call_admit.proofs.is_open.Goals as goal

pub returns : goal.returns
returns c = open_at _ _ c.requires.1
