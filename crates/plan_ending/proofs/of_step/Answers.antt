-- `plan_ending::of_step` meets its contract, by the cases of the step. Place 32, beyond the last, is no job that is over. Assumes nothing.
use mathlib.Core.Path.{◌∙◌}
use Rattle.plan.specs.Steps.{ending}
use Rattle.plan_ending.proofs.Walks.{none_over}
use Rattle.plan_ending.proofs.Steps.{quiet_step}
use Rattle.plan_ending.proofs.of_step.Goals as goal

pub roused-requires : goal.roused-requires
roused-requires c = (c.requires.0, rw c.in-Flags.is at c.requires.1)

pub returns-in-End : goal.returns-in-End
unfolding ending
returns-in-End c = rw (c.in-End.is, c.forgotten.ensures, c.able_at.ensures, c.row_at-r.ensures)

pub returns-in-New : goal.returns-in-New
unfolding ending
returns-in-New c = c.woken.ensures ∙ rw (c.in-New.is, c.sleepers.ensures, c.able_at-in-New.ensures)

pub returns-in-Flags : goal.returns-in-Flags
unfolding ending
returns-in-Flags c = c.woken-in-Flags.ensures ∙ rw (c.in-Flags.is, c.roused.ensures)

pub returns-in-Able : goal.returns-in-Able
unfolding ending
returns-in-Able c = rw (c.in-Able.is, c.forgotten-in-Able.ensures, c.enabled.ensures, none_over c.args.table.now)

pub returns-in_default : goal.returns-in_default
returns-in_default c =
    c.woken-in_default.ensures
    ∙ quiet_step c.args.step _ c.in_default.not-End c.in_default.not-New c.in_default.not-Flags c.in_default.not-Able
