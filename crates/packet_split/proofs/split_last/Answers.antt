-- `packet_split::split_last` meets its contract: all that is left is the argument, if it is as its rule says. Assumes nothing.
use Rattle.packet_split.proofs.Splitting.{last_unfit, last_fit}
use borrow.Author.Rules.{rules}
use Rattle.packet_split.proofs.split_last.Goals as goal

pub returns-then-not-fits : goal.returns-then-not-fits
returns-then-not-fits c = search (rules, last_unfit)

pub returns : goal.returns
returns c = search (rules, last_fit)
