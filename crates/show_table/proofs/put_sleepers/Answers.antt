-- `show_table::put_sleepers` meets its contract: the word, the sleepers, and ` none` if there is none. Assumes nothing.
use mathlib.Core.List.{◌++◌}
use Rattle.octets.proofs.Runs.{room_first}
use Rattle.show_table.specs.Standing.{asleep_word, below, connections_text, sleepers_text}
use Rattle.show_table.proofs.Connections.{list_laid, list_room, none_room, sleeps}
use Rattle.show_table.proofs.put_sleepers.Goals as goal

pub put-list-requires : goal.put-list-requires
unfolding sleepers_text
put-list-requires c =
    room_first _ (below ++ asleep_word) (connections_text (sleeps c.args.connections) 16) _ c.requires

pub put_asleep-place-requires : goal.put_asleep-place-requires
unfolding sleepers_text
put_asleep-place-requires c =
    list_room _ (below ++ asleep_word) (sleeps c.args.connections) _ _ _ c.put-list.ensures c.requires

pub put_if-requires : goal.put_if-requires
unfolding sleepers_text
put_if-requires c =
    none_room _ (below ++ asleep_word) (sleeps c.args.connections) _ _ _ c.put-list.ensures c.requires _ _ c.put_asleep-place.ensures

pub returns : goal.returns
unfolding sleepers_text
returns c =
    list_laid _ (below ++ asleep_word) (sleeps c.args.connections) _ _ _ c.put-list.ensures _ _ c.put_asleep-place.ensures _ _ c.put_if.ensures
