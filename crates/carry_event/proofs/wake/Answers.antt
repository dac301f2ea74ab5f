-- `carry_event::wake` meets its contract: the empty set has no packet. Assumes nothing.
use Rattle.carry_event.proofs.Steps.{none_woken}
use Rattle.carry_event.proofs.wake.Goals as goal

pub returns-then-woken-eq0 : goal.returns-then-woken-eq0
returns-then-woken-eq0 c = rw c.if-woken-eq0.true (none_woken _ _)
