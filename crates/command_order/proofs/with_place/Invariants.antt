-- `command_order::with_place` meets its contract. The invariant: the first i places are laid down, and the hand and the places ahead of it
-- become the rest. Assumes nothing.
use mathlib.Core.Path.{◌≡◌}
use lib.ListN.{length}
use Rattle.server.specs.Sizes.{connection_count, function_count}
use Rattle.server.specs.Layout.{table_of}
use Rattle.command_order.proofs.Hand.{Hand}
use Rattle.command_order.proofs.with_place.Given as goal

abbrev pub invariant-loop-i : goal.invariant-loop-i
invariant-loop-i l = (length l.next ≡ function_count) × Hand (table_of connection_count l.table).functions l.q l.count l.places l.next l.hand l.moved l.i
