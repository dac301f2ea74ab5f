-- `carry_packet::is_told` meets its contract: the row of a refusal that is told begins with its text. Assumes nothing.
use Rattle.carry_packet.proofs.Answers.{told_at}
use Rattle.carry_packet.proofs.is_told.Goals as goal

pub returns : goal.returns
returns c = told_at _ _ c.error_text.ensures
