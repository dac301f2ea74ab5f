-- `command_order::with_known` meets its contract: a place without a name is passed over. Assumes nothing.
use native.Mathlib.Omega.{arith}
use Rattle.server.specs.Sizes.{connection_count}
use Rattle.server.specs.Layout.{table_of}
use Rattle.command_order.specs.Listing.{listed}
use Rattle.command_order.proofs.Listed.{place_put, place_skipped}
use Rattle.command_order.proofs.with_known.Goals as goal

pub returns-then-is_empty : goal.returns-then-is_empty
returns-then-is_empty c =
    (omega arith, place_skipped (table_of connection_count c.args.table.now).functions c.args.q _ c.name_at.ensures (listed c.args.listing) c.if-is_empty.ensures)

pub returns : goal.returns
returns c =
    (omega arith, place_put (table_of connection_count c.args.table.now).functions c.args.q _ c.name_at.ensures (listed c.args.listing) _ c.if-is_empty.ensures c.with_place.ensures)
