-- `plan_find_texts::room_for` meets its contract: the name's place, or else that of the empty name. Assumes nothing.
use Rattle.plan_find_texts.proofs.Names.{room_place}
use Rattle.plan_find_texts.proofs.room_for.Goals as goal

pub returns : goal.returns
returns c =
    room_place _ _ c.requires.0 c.read_names-names.ensures _ _ c.requires.2 c.requires.3 c.padded-name.ensures _ c.place_of.ensures _ c.or_free.ensures
