-- `plan_find_texts::places_for` meets its contract: both places are found from that of the name. Assumes nothing.
use Rattle.plan_find_texts.proofs.Names.{known_place, room_place}
use Rattle.plan_find_texts.proofs.Joining.{joined_found}
use Rattle.plan_find_texts.proofs.places_for.Goals as goal

pub returns : goal.returns
returns c = (
  joined_found c.args.table.now c.requires.0 _ _ _ _ c.requires.2 (known_place _ _ c.requires.0 c.read_names-names.ensures _ _ c.requires.3 c.requires.4 c.padded-name.ensures _ c.place_of-known.ensures) c.joined_at-joined.ensures,
  room_place _ _ c.requires.0 c.read_names-names.ensures _ _ c.requires.3 c.requires.4 c.padded-name.ensures _ c.place_of-known.ensures _ c.or_free-room.ensures,
)
