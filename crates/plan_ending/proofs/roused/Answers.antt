-- `plan_ending::roused` meets its contract: itself, if it sleeps and can grab a job. Assumes nothing.
use mathlib.Core.Path.{sym, ◌∙◌}
use Rattle.plan_ending.proofs.roused.Goals as goal

pub returns-then-some_grab : goal.returns-then-some_grab
returns-then-some_grab c = rw (c.if-asleep.true, sym c.some_grab.ensures ∙ c.if-some_grab.true) c.insert.ensures

pub returns-else-some_grab : goal.returns-else-some_grab
returns-else-some_grab c = rw (c.if-asleep.true, sym c.some_grab.ensures ∙ c.if-some_grab.false)
