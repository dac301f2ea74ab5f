-- `sets::remove` meets its contract: one law for each of its returns, and one for the difference. Assumes nothing.
use Rattle.sets.proofs.Laws.{remove_old, remove_none, remove_fits}
use borrow.Author.Rules.{rules}
use Rattle.sets.proofs.remove.Goals as goal

pub overflow_sub-result : goal.overflow_sub-result
overflow_sub-result c = search (rules, remove_fits)

pub returns-then-has : goal.returns-then-has
returns-then-has c = search (rules, remove_old)

pub returns : goal.returns
returns c = search (rules, remove_none)
