-- `table_texts::place_of` meets its contract. The invariant: the search among all places is the search from place i on. Assumes nothing.
use Prim.Native.Nat.{ℕ, ◌≤◌}
use mathlib.Core.Path.{◌≡◌}
use mathlib.Core.Bool.{Bool}
use mathlib.Core.List.{List, []}
use lib.ListN.{get_or, drop}
use Rattle.octets.specs.Bytes.{Bytes}
use Rattle.lists.specs.Lists.{find, numbers}
use Rattle.lists.proofs.Lowest.{up_by}
use Rattle.table_texts.specs.Places.{agree}
use Rattle.table_texts.proofs.place_of.Given as goal

-- the name stands at place q
abbrev pub stands : List Bytes → Bytes → ℕ → Bool
stands names name q = agree 32 (get_or names q []) name

abbrev pub invariant-loop-i : goal.invariant-loop-i
invariant-loop-i l = (l.i ≤ 16) × (find (stands l.names l.name) (numbers 0 16) ≡ up_by l.i (find (stands l.names l.name) (drop l.i (numbers 0 16))))
