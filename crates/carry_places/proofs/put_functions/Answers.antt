-- `carry_places::put_functions` meets its contract: each turn lays one function, and after the last none is left. Assumes nothing.
use Rattle.server.specs.Sizes.{function_count}
use native.Mathlib.Omega.{arith}
use Rattle.carry_places.proofs.Each.{each_turn, each_end}
use Rattle.carry_places.proofs.put_functions.Goals as goal

pub loop-q-preserved : goal.loop-q-preserved
loop-q-preserved c = each_turn _ function_count c.loop-q.q _ _ _ c.loop-q-test.true c.loop-q.invariant c.put_function.ensures

pub returns : goal.returns
returns c = each_end _ function_count c.loop-q.q _ _ (omega arith) c.loop-q.invariant
