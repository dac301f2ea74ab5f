use mathlib.Core.Path.{refl, ap, ◌∙◌}
use native.Mathlib.Omega.{arith}
use Rattle.server.specs.Table.{closed}
use Rattle.plan.specs.Busy.{wakes_now, to_wake_set}
use Rattle.plan_settle.proofs.Turns.{union_turn, union_end}
use Rattle.plan.proofs.Sizes.{connections_long}
use Rattle.plan_ending.proofs.sleepers.Goals as goal

pub loop-c-init : goal.loop-c-init
unfolding to_wake_set
loop-c-init c = (omega arith, refl)

pub loop-c-preserved : goal.loop-c-preserved
loop-c-preserved c = (
  omega arith,
  union_turn (wakes_now c.args.able) _ _ c.loop-c.s c.loop-c.c c.loop-c.invariant.1 closed c.union-s.result c.waking.result (omega (arith, connections_long c.args.table.now)) c.union-s.ensures
      (c.waking.ensures ∙ ap (wakes_now c.args.able c.loop-c.c) c.connection_at.ensures),
)

pub returns : goal.returns
returns c =
    union_end (wakes_now c.args.able) _ _ c.loop-c.s c.loop-c.c c.loop-c.invariant.1 (omega (arith, connections_long c.args.table.now))
