use mathlib.Core.Path.{refl}
use native.Mathlib.Omega.{arith}
use Rattle.server.specs.Layout.{table_of}
use Rattle.server.specs.Table.{no_row, grabbable}
use Rattle.server.specs.Sizes.{connection_count}
use Rattle.plan.specs.Values.{values_of}
use Rattle.plan.proofs.Sizes.{rows_long}
use Rattle.plan_ending.proofs.Walks.{any_turn, any_end}
use Rattle.plan_ending.proofs.some_grab.Goals as goal

pub loop-i-init : goal.loop-i-init
loop-i-init c = (omega arith, refl)

pub loop-i-preserved : goal.loop-i-preserved
loop-i-preserved c =
    (omega arith, any_turn (grabbable (values_of (table_of connection_count c.args.table.now)).able c.args.c) _ 32 c.loop-i.i c.loop-i.found (rows_long _) c.loop-i.invariant.1 no_row c.grabs-found.result (omega arith) c.grabs-found.ensures)

pub returns : goal.returns
returns c =
    any_end (grabbable (values_of (table_of connection_count c.args.table.now)).able c.args.c) _ 32 c.loop-i.i c.loop-i.found (rows_long _) c.loop-i.invariant.1 (omega arith)
