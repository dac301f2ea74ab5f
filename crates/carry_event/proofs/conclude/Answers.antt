-- `carry_event::conclude` meets its contract: refused by the plan's number, or carried out by its step and ending, or as a whole.
-- Assumes nothing.
use Rattle.carry_event.proofs.Steps.{refused_concluded}
use Rattle.carry_event.proofs.conclude.Goals as goal

pub returns-then-number-ne0 : goal.returns-then-number-ne0
returns-then-number-ne0 c = refused_concluded _ _ _ _ _ _ _ _ _ _ c.if-number-ne0.true c.refuse-length.ensures
