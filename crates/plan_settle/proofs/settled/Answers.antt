-- `plan_settle::settled` meets its contract: rows dropped first, then connections woken by the busy of what is left.
-- Assumes nothing.
use Rattle.plan.specs.Settling.{settled_values}
use Rattle.plan_settle.proofs.Sleepers.{woken_busy}
use Rattle.plan_settle.proofs.settled.Goals as goal

pub returns : goal.returns
unfolding settled_values
returns c = rw (c.woken-connections.ensures, c.busy.ensures, c.dropped-rows.ensures, woken_busy)
