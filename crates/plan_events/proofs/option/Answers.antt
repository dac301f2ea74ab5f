-- `plan_events::option` meets its contract: another option is 15. Assumes nothing.
use mathlib.Core.Path.{◌∙◌}
use borrow.Author.Tests.{not-true, not-false}
use Rattle.std.proofs.Common.{ap, not}
use Rattle.plan_events.proofs.option.Goals as goal

pub returns-then-not-served : goal.returns-then-not-served
returns-then-not-served c = c.refused.ensures ∙ rw (not-true c.args.served (ap not c.if-not-served.true))

pub returns : goal.returns
returns c = c.done.ensures ∙ rw (c.with_exceptions-next.ensures, c.connection_at-x.ensures, not-false c.args.served (ap not c.if-not-served.false))
