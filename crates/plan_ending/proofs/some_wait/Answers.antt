use mathlib.Core.Path.{refl, ap, ◌∙◌}
use native.Mathlib.Omega.{arith}
use Rattle.server.specs.Table.{no_row}
use Rattle.plan.specs.Steps.{waits}
use Rattle.plan.proofs.Sizes.{rows_long}
use Rattle.plan_ending.proofs.Walks.{any_turn, any_end}
use Rattle.plan_ending.proofs.some_wait.Goals as goal

pub loop-i-init : goal.loop-i-init
loop-i-init c = (omega arith, refl)

pub loop-i-preserved : goal.loop-i-preserved
loop-i-preserved c =
    (omega arith, any_turn (waits c.args.q) _ 32 c.loop-i.i c.loop-i.found (rows_long _) c.loop-i.invariant.1 no_row c.waits-found.result (omega arith) (c.waits-found.ensures ∙ ap (waits c.args.q) c.row_at.ensures))

pub returns : goal.returns
returns c =
    any_end (waits c.args.q) _ 32 c.loop-i.i c.loop-i.found (rows_long _) c.loop-i.invariant.1 (omega arith)
