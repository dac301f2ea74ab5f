-- `lap::lap_open` meets its contract: it is `call_serve::open`, and the length fits into 32 bits. Assumes nothing.
use Rattle.lap.proofs.Lengths.{small_length}
use borrow.Author.Rules.{rules}
use Rattle.lap.proofs.lap_open.Goals as goal

pub overflow_cast-length : goal.overflow_cast-length
overflow_cast-length c = search (rules, small_length _ _ _ _ _ _ _ _ _ c.open-opened.ensures)
