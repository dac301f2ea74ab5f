-- `sets::insert` meets its contract: one law for each of its returns, and one for the sum. Assumes nothing.
use Rattle.sets.proofs.Laws.{insert_old, insert_new, insert_fits}
use borrow.Author.Rules.{rules}
use Rattle.sets.proofs.insert.Goals as goal

pub returns-then-has : goal.returns-then-has
returns-then-has c = search (rules, insert_old)

pub overflow_add-result : goal.overflow_add-result
overflow_add-result c = search (rules, insert_fits)

pub returns : goal.returns
returns c = search (rules, insert_new)
