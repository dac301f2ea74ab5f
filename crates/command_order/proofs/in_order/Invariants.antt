-- `command_order::in_order` meets its contract. The invariant: the known functions from place q on are listed, and there is room for the
-- others. Assumes nothing.
use Prim.Native.Nat.{◌+◌, ◌-◌, ◌≤◌}
use mathlib.Core.Path.{◌≡◌}
use Rattle.server.specs.Sizes.{connection_count, function_count}
use Rattle.server.specs.Layout.{table_of}
use Rattle.command_order.specs.Listing.{listed}
use Rattle.command_order.proofs.Listed.{from}
use Rattle.command_order.proofs.in_order.Given as goal

abbrev pub invariant-loop-q : goal.invariant-loop-q
invariant-loop-q l = (l.listing.count + l.q ≤ function_count) × (listed l.listing ≡ from (table_of connection_count l.table).functions l.q (function_count - l.q))
