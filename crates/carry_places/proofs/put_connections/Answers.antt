-- `carry_places::put_connections` meets its contract: each turn lays one connection, and after the last none is left. Assumes nothing.
use Rattle.server.specs.Sizes.{connection_count}
use native.Mathlib.Omega.{arith}
use Rattle.carry_places.proofs.Each.{each_turn, each_end}
use Rattle.carry_places.proofs.put_connections.Goals as goal

pub loop-c-preserved : goal.loop-c-preserved
loop-c-preserved c = each_turn _ connection_count c.loop-c.c _ _ _ c.loop-c-test.true c.loop-c.invariant c.put_flags.ensures

pub returns : goal.returns
returns c = each_end _ connection_count c.loop-c.c _ _ (omega arith) c.loop-c.invariant
