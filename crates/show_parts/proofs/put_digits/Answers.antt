-- `show_parts::put_digits` meets its contract: a space, kind and connection, and the header. Assumes nothing.
use mathlib.Core.List.{[], ◌∷◌, ◌++◌}
use Rattle.hexadecimal.specs.Hex.{hex}
use Rattle.show_names.specs.Names.{space}
use Rattle.octets.proofs.Runs.{laid_third, room_first, room_second, room_third}
use Rattle.show_parts.proofs.put_digits.Goals as goal

pub put-digits-requires : goal.put-digits-requires
put-digits-requires c = room_first _ space (hex (c.args.kind ∷ c.args.connection ∷ []) ++ hex c.args.header.now) _ c.requires

pub put_hex-place-requires : goal.put_hex-place-requires
put_hex-place-requires c = room_second _ space (hex (c.args.kind ∷ c.args.connection ∷ [])) (hex c.args.header.now) _ _ _ c.put-digits.ensures c.requires

pub put_hex-requires : goal.put_hex-requires
put_hex-requires c = room_third _ space (hex (c.args.kind ∷ c.args.connection ∷ [])) (hex c.args.header.now) _ _ _ c.put-digits.ensures _ _ c.put_hex-place.ensures c.requires

pub returns : goal.returns
returns c = laid_third _ space (hex (c.args.kind ∷ c.args.connection ∷ [])) (hex c.args.header.now) _ _ _ c.put-digits.ensures _ _ c.put_hex-place.ensures _ _ c.put_hex.ensures
