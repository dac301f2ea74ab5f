-- `command_status::put_lines` meets its contract. The invariant: the lines of the places passed lie over the text, whose length stays.
-- Assumes nothing.
use mathlib.Core.Path.{◌≡◌}
use lib.ListN.{length}
use Rattle.server.specs.Sizes.{connection_count}
use Rattle.server.specs.Layout.{table_of}
use Rattle.prints.proofs.Pieces.{Laid}
use Rattle.command_status.proofs.Lines.{line_at}
use Rattle.command_status.proofs.put_lines.Given as goal

abbrev pub invariant-loop-q : goal.invariant-loop-q
invariant-loop-q l = (length l.out ≡ length l.initial.out) × Laid (line_at (table_of connection_count l.table) l.q-items) l.at l.initial.out l.q-index l.place l.out
