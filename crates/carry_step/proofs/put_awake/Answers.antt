-- `carry_step::put_awake` meets its contract: each turn looks at one connection, and after the last none is left. Assumes nothing.
use mathlib.Core.Path.{sym}
use native.Mathlib.Omega.{arith}
use Rattle.server.specs.Sizes.{connection_count}
use Rattle.carry_places.proofs.Each.{each_turn, each_end}
use Rattle.carry_step.proofs.Laid.{none_awake}
use Rattle.carry_step.proofs.put_awake.Goals as goal

pub loop-c-preserved : goal.loop-c-preserved
loop-c-preserved c = each_turn _ connection_count c.loop-c.c _ _ _ c.loop-c-test.true c.loop-c.invariant c.put_if_woken.ensures

pub returns-after-loop-c : goal.returns-after-loop-c
returns-after-loop-c c = each_end _ connection_count c.loop-c.c _ _ (omega arith) c.loop-c.invariant

pub returns-else-woken-ne0 : goal.returns-else-woken-ne0
returns-else-woken-ne0 c = rw c.if-woken-ne0.false (sym (none_awake _))
