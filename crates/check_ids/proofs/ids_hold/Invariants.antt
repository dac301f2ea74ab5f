-- `check_ids::ids_hold` meets its contract. The invariant: the flag says what the ids of the groups passed say. Assumes nothing.
use Rattle.std.proofs.Common.{◌≡◌, ◌*◌}
use Rattle.lists.specs.Lists.{all, numbers}
use Rattle.check_ids.specs.Ids.{id_holds}
use Rattle.check_ids.proofs.ids_hold.Given as goal

abbrev pub invariant-loop-group : goal.invariant-loop-group
invariant-loop-group l = l.ok ≡ all (id_holds l.table) (numbers 0 (8 * l.group))
