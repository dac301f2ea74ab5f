-- `plan_find_texts::with_unique` meets its contract. The invariant: the search among all places is the search from place i on.
-- Assumes nothing.
use Prim.Native.Nat.{◌≤◌}
use mathlib.Core.Path.{◌≡◌}
use lib.ListN.{drop}
use Rattle.lists.specs.Lists.{find, numbers}
use Rattle.server.specs.Sizes.{job_count}
use Rattle.lists.proofs.Lowest.{up_by}
use Rattle.plan_find_texts.specs.Uniques.{lies_for}
use Rattle.plan_find_texts.proofs.with_unique.Given as goal

abbrev pub invariant-loop-i : goal.invariant-loop-i
invariant-loop-i l = (l.i ≤ job_count) × (find (lies_for l.table l.function l.place) (numbers 0 job_count) ≡ up_by l.i (find (lies_for l.table l.function l.place) (drop l.i (numbers 0 job_count))))
