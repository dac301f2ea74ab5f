-- `carry_packet::error_text` meets its contract: the table has each text in nine bytes. Assumes nothing.
use mathlib.Core.Path.{refl}
use native.Mathlib.Omega.{arith}
use Rattle.carry_packet.proofs.Answers.{text_at}
use Rattle.carry_packet.proofs.error_text.Goals as goal

pub returns : goal.returns
returns c = text_at _ refl c.args.number (omega arith)
