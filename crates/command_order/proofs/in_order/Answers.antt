use native.Mathlib.Omega.{arith}
use Rattle.server.specs.Sizes.{connection_count, function_count}
use Rattle.server.specs.Layout.{table_of}
use Rattle.table_passes.proofs.Rows.{functions_length}
use Rattle.command_order.proofs.Listed.{list_end, list_turn, none_yet}
use Rattle.command_order.proofs.in_order.Goals as goal

pub loop-q-init : goal.loop-q-init
loop-q-init c =
    (omega arith, none_yet (table_of connection_count c.args.table.now).functions function_count)

pub loop-q-preserved : goal.loop-q-preserved
loop-q-preserved c =
    (omega arith, list_turn (table_of connection_count c.args.table.now).functions function_count c.loop-q.q _ c.loop-q.invariant.1 (omega arith) (omega arith) _ c.with_known-listing.ensures.1)

pub returns : goal.returns
returns c =
    (omega arith, list_end (table_of connection_count c.args.table.now).functions function_count c.loop-q.q _ c.loop-q.invariant.1 (omega arith) (functions_length connection_count c.args.table.now))
