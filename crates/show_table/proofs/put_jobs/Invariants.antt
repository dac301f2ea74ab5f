-- `show_table::put_jobs` meets its contract. The invariant: the jobs of the rows before p lie over the text, whose length stays.
-- Assumes nothing.
use Prim.Native.Nat.{◌-◌, ◌≤◌}
use mathlib.Core.Path.{◌≡◌}
use lib.ListN.{length}
use Rattle.prints.proofs.Pieces.{Laid}
use Rattle.show_table.proofs.Jobs.{unfinished}
use Rattle.server.specs.Sizes.{job_count}
use Rattle.show_table.proofs.put_jobs.Given as goal

abbrev pub invariant-loop-p : goal.invariant-loop-p
invariant-loop-p l = (l.p ≤ job_count) × (length l.out ≡ length l.initial.out) × Laid (unfinished l.hub l.rows) l.at l.initial.out l.p l.place l.out
