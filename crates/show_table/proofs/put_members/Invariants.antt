-- `show_table::put_members` meets its contract. The invariant: the members below c lie over the text, whose length stays.
-- Assumes nothing.
use Prim.Native.Nat.{◌-◌, ◌≤◌}
use mathlib.Core.Path.{◌≡◌}
use lib.ListN.{length}
use Rattle.sets.specs.Sets.{has}
use Rattle.prints.proofs.Pieces.{Laid}
use Rattle.show_table.proofs.Connections.{shown}
use Rattle.server.specs.Sizes.{connection_count}
use Rattle.show_table.proofs.put_members.Given as goal

abbrev pub invariant-loop-c : goal.invariant-loop-c
invariant-loop-c l = (l.c ≤ connection_count) × (length l.out ≡ length l.initial.out) × Laid (shown (has l.set)) l.at l.initial.out l.c l.place l.out
