-- `show_table::put_asleep` meets its contract. The invariant: the sleepers below c lie over the text, whose length stays.
-- Assumes nothing.
use Prim.Native.Nat.{◌-◌, ◌≤◌}
use mathlib.Core.Path.{◌≡◌}
use lib.ListN.{length}
use Rattle.prints.proofs.Pieces.{Laid}
use Rattle.show_table.proofs.Connections.{shown, sleeps}
use Rattle.server.specs.Sizes.{connection_count}
use Rattle.show_table.proofs.put_asleep.Given as goal

abbrev pub invariant-loop-c : goal.invariant-loop-c
invariant-loop-c l = (l.c ≤ connection_count) × (length l.out ≡ length l.initial.out) × Laid (shown (sleeps l.connections)) l.at l.initial.out l.c l.place l.out
