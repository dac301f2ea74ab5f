-- `command_workers::put_lines` meets its contract. The invariant: the lines of the open connections below c lie over the text, whose length
-- stays. Assumes nothing.
use mathlib.Core.Path.{◌≡◌}
use lib.ListN.{length}
use Rattle.server.specs.Sizes.{connection_count}
use Rattle.server.specs.Layout.{table_of}
use Rattle.prints.proofs.Pieces.{Laid}
use Rattle.command_order.specs.Listing.{listed}
use Rattle.command_workers.specs.Parts.{open_text}
use Rattle.command_workers.proofs.put_lines.Given as goal

abbrev pub invariant-loop-c : goal.invariant-loop-c
invariant-loop-c l = (length l.out ≡ length l.initial.out) × Laid (open_text (table_of connection_count l.table) (listed l.listing)) l.at l.initial.out l.c l.place l.out
