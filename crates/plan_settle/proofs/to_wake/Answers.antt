use mathlib.Core.Path.{refl}
use native.Mathlib.Omega.{arith}
use Rattle.server.specs.Table.{closed}
use Rattle.plan.specs.Busy.{wakes_now, to_wake_set}
use Rattle.plan_settle.proofs.Turns.{union_turn, union_end}
use Rattle.plan_settle.proofs.to_wake.Goals as goal

pub loop-i-init : goal.loop-i-init
unfolding to_wake_set
loop-i-init c = (omega arith, refl)

pub loop-i-preserved : goal.loop-i-preserved
loop-i-preserved c =
    (omega arith, union_turn (wakes_now c.args.busy) c.args.connections _ c.loop-i.s c.loop-i.i c.loop-i.invariant.1 closed c.union-s.result c.waking.result (omega arith) c.union-s.ensures c.waking.ensures)

pub returns : goal.returns
returns c =
    union_end (wakes_now c.args.busy) c.args.connections _ c.loop-i.s c.loop-i.i c.loop-i.invariant.1 (omega arith)
