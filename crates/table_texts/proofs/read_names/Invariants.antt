-- `table_texts::read_names` meets its contract. The invariant: the first q names are those of the table. Assumes nothing.
use mathlib.Core.Path.{◌≡◌}
use mathlib.Core.List.{map}
use lib.ListN.{length, take}
use Rattle.lists.specs.Lists.{numbers}
use Rattle.table_texts.specs.Places.{name_in}
use Rattle.table_texts.proofs.read_names.Given as goal

abbrev pub invariant-loop-q : goal.invariant-loop-q
invariant-loop-q l = (length l.names ≡ 16) × (take l.q l.names ≡ map (name_in l.table) (numbers 0 l.q))
