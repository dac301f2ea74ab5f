-- `carry_event::refuse` meets its contract: an ERROR packet, if the refusal is told. Assumes nothing.
use mathlib.Core.Path.{sym, ◌∙◌}
use Rattle.carry_event.proofs.Steps.{silent_laid, error_laid, error_room}
use Rattle.carry_event.proofs.refuse.Goals as goal

pub send_error-requires : goal.send_error-requires
send_error-requires c = (c.requires.0, error_room _ _ _ c.requires.1)

pub returns-then-is_told : goal.returns-then-is_told
returns-then-is_told c = error_laid _ _ _ _ _ (sym c.is_told.ensures ∙ c.if-is_told.true) c.send_error.ensures

pub returns-else-is_told : goal.returns-else-is_told
returns-else-is_told c = silent_laid _ _ _ (sym c.is_told.ensures ∙ c.if-is_told.false)
