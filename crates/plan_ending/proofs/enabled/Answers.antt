-- `plan_ending::enabled` meets its contract: without a sleeper nobody wakes, whether a job waits or not. Assumes nothing.
use mathlib.Core.Path.{sym, ◌∙◌}
use Rattle.server.specs.Layout.{table_of}
use Rattle.lists.specs.Lists.{any}
use Rattle.server.specs.Sizes.{connection_count}
use Rattle.plan.specs.Values.{values_of}
use Rattle.plan.specs.Steps.{waits}
use Rattle.plan_ending.proofs.Walks.{none_to_choose}
use Rattle.plan_ending.proofs.enabled.Goals as goal

pub returns-then-s-eq0 : goal.returns-then-s-eq0
returns-then-s-eq0 c =
    none_to_choose (any (waits c.args.q) (values_of (table_of connection_count c.args.table.now)).rows) _ _ c.sleepers-s.ensures c.if-s-eq0.true

pub returns-then-some_wait : goal.returns-then-some_wait
returns-then-some_wait c = rw (sym c.some_wait.ensures ∙ c.if-some_wait.true) c.sleepers-s.ensures

pub returns : goal.returns
returns c = rw (sym c.some_wait.ensures ∙ c.if-some_wait.false)
