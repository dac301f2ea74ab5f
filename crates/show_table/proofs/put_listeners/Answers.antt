-- `show_table::put_listeners` meets its contract: the word, the members, and ` none` if there is none. Assumes nothing.
use Rattle.sets.specs.Sets.{has}
use Rattle.octets.proofs.Runs.{room_first}
use Rattle.show_table.specs.Standing.{connections_text, listeners_word}
use Rattle.show_table.proofs.Connections.{list_laid, list_room, none_room}
use Rattle.show_table.proofs.put_listeners.Goals as goal

pub put-list-requires : goal.put-list-requires
put-list-requires c =
    room_first _ listeners_word (connections_text (has c.args.listeners) 16) _ c.requires

pub put_members-place-requires : goal.put_members-place-requires
put_members-place-requires c =
    list_room _ listeners_word (has c.args.listeners) _ _ _ c.put-list.ensures c.requires

pub put_if-requires : goal.put_if-requires
put_if-requires c =
    none_room _ listeners_word (has c.args.listeners) _ _ _ c.put-list.ensures c.requires _ _ c.put_members-place.ensures

pub returns : goal.returns
returns c =
    list_laid _ listeners_word (has c.args.listeners) _ _ _ c.put-list.ensures _ _ c.put_members-place.ensures _ _ c.put_if.ensures
