-- `packet_read::argument` meets its contract: the argument lies between its place and the next, and there is no sixth.
-- Assumes nothing.
use Rattle.packet.specs.Answers.{argument_at}
use Rattle.packet_read.proofs.Reading.{argument_none}
use borrow.Author.Rules.{rules}
use Rattle.packet_read.proofs.argument.Goals as goal

pub returns-then-i-gt4 : goal.returns-then-i-gt4
returns-then-i-gt4 c = search (rules, argument_none)

pub returns : goal.returns
unfolding argument_at
returns c = c.part.ensures
