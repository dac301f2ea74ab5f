-- `show_names::put_type` meets its contract: the word, and the number. Assumes nothing.
use Rattle.handle.specs.Handle.{decimal}
use Rattle.octets.proofs.Runs.{laid_then}
use Rattle.show_names.specs.Names.{type_word}
use Rattle.show_names.proofs.put_type.Goals as goal

pub returns : goal.returns
returns c = laid_then _ type_word (decimal c.args.kind) _ _ _ c.put-place.ensures _ _ c.put_number.ensures
