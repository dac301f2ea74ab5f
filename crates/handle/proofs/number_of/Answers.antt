use borrow.Author.Rules.{rules}
use Rattle.handle.proofs.Reading.{number_low, number_high, bound_on, value_on, digits_on, number_end}
use Rattle.handle.proofs.number_of.Goals as goal

pub returns-in_default : goal.returns-in_default
returns-in_default c = search (rules, number_low)

pub returns-in_default-2 : goal.returns-in_default-2
returns-in_default-2 c = search (rules, number_high)

pub loop-x-preserved : goal.loop-x-preserved
loop-x-preserved c = search (rules, bound_on, value_on, digits_on)

pub returns : goal.returns
returns c = search (rules, number_end)
