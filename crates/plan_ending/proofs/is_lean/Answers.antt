-- `plan_ending::is_lean` meets its contract: what is no giving up and no leaving is lean. Assumes nothing.
use Rattle.plan.specs.Steps.{is_lean}
use Rattle.plan_ending.proofs.Steps.{lean_step}
use Rattle.plan_ending.proofs.is_lean.Goals as goal

pub returns-in-Reset : goal.returns-in-Reset
unfolding is_lean
returns-in-Reset c = rw c.in-Reset.is

pub returns-in-Leave : goal.returns-in-Leave
unfolding is_lean
returns-in-Leave c = rw c.in-Leave.is

pub returns-in_default : goal.returns-in_default
returns-in_default c = lean_step c.args.step c.in_default.not-Reset c.in_default.not-Leave
