-- `plan_find_texts::known` meets its contract: the padded name is looked for among the names as they lie. Assumes nothing.
use Rattle.plan_find_texts.proofs.Names.{known_place}
use Rattle.plan_find_texts.proofs.known.Goals as goal

pub returns : goal.returns
returns c =
    known_place _ _ c.requires.0 c.read_names-names.ensures _ _ c.requires.2 c.requires.3 c.padded-place.ensures _ c.place_of.ensures
