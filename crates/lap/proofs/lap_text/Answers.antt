-- `lap::lap_text` meets its contract: it is `call_text::text`, and the length fits into 32 bits. Assumes nothing.
use Rattle.lap.proofs.Lengths.{small_text}
use borrow.Author.Rules.{rules}
use Rattle.lap.proofs.lap_text.Goals as goal

pub overflow_cast-length : goal.overflow_cast-length
overflow_cast-length c = search (rules, small_text _ _ _ _ _ _ _ _ c.text-said.ensures)
