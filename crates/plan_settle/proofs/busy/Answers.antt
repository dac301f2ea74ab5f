use mathlib.Core.Path.{refl}
use native.Mathlib.Omega.{arith}
use Rattle.server.specs.Table.{no_row}
use Rattle.plan.specs.Busy.{able_for, busy_set}
use Rattle.plan_settle.proofs.Turns.{union_turn, union_end}
use Rattle.plan_settle.proofs.busy.Goals as goal

pub loop-r-init : goal.loop-r-init
unfolding busy_set
loop-r-init c = (omega arith, refl)

pub loop-r-preserved : goal.loop-r-preserved
loop-r-preserved c =
    (omega arith, union_turn (λ k r. able_for c.args.able r) c.args.rows _ c.loop-r.s c.loop-r.r-index c.loop-r.invariant.1 no_row c.union-s.result c.able_for.result (omega arith) c.union-s.ensures c.able_for.ensures)

pub returns : goal.returns
returns c =
    union_end (λ k r. able_for c.args.able r) c.args.rows _ c.loop-r.s c.loop-r.r-index c.loop-r.invariant.1 (omega arith)
