-- `show_table::put_gone` meets its contract. The invariant: what is said of the rows before q lies over the text, whose length stays.
-- Assumes nothing.
use Prim.Native.Nat.{◌-◌, ◌≤◌}
use mathlib.Core.Path.{◌≡◌}
use lib.ListN.{length}
use Rattle.prints.proofs.Pieces.{Laid}
use Rattle.show_table.proofs.Jobs.{gone}
use Rattle.server.specs.Sizes.{job_count}
use Rattle.show_table.proofs.put_gone.Given as goal

abbrev pub invariant-loop-q : goal.invariant-loop-q
invariant-loop-q l = (l.q ≤ job_count) × (length l.out ≡ length l.initial.out) × Laid (gone l.hub l.word l.before l.after) l.at l.initial.out l.q l.place l.out
