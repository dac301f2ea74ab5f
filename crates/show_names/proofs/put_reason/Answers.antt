-- `show_names::put_reason` meets its contract: the word of its row is the reason. Assumes nothing.
use mathlib.Core.Path.{ap, ◌∙◌}
use Rattle.show_names.specs.Names.{word}
use Rattle.octets.proofs.Runs.{laid_as, room_as}
use Rattle.show_names.proofs.Words.{reason_word}
use Rattle.show_names.proofs.put_reason.Goals as goal

pub put_word-requires : goal.put_word-requires
put_word-requires c = room_as _ _ (ap word c.reason_row-row.ensures ∙ reason_word c.args.number) _ _ c.requires

pub returns : goal.returns
returns c = laid_as _ _ (ap word c.reason_row-row.ensures ∙ reason_word c.args.number) _ _ _ _ c.put_word.ensures
