-- `carry_event::opaque_in` meets its contract: the argument at the place that its shape has; at none it is empty. Assumes nothing.
use Rattle.carry_event.proofs.Steps.{opaque_taken, opaque_none}
use Rattle.carry_event.proofs.opaque_in.Goals as goal

pub returns-in-Some : goal.returns-in-Some
returns-in-Some c = opaque_taken _ _ _ _ _ _ c.request_shape.ensures c.in-Some.ensures.1 c.argument.ensures

pub returns-in-None : goal.returns-in-None
returns-in-None c = opaque_none _ _ _ _ c.request_shape.ensures c.in-None.ensures
