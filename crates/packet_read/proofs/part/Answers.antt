-- `packet_read::part` meets its contract: the bytes lie in the packet, or there are none. Assumes nothing.
use Rattle.packet_read.proofs.Reading.{part_empty, part_outside, part_inside}
use borrow.Author.Rules.{rules}
use Rattle.packet_read.proofs.part.Goals as goal

pub returns-then-end-before : goal.returns-then-end-before
returns-then-end-before c = search (rules, part_empty)

pub returns-then-s-end : goal.returns-then-s-end
returns-then-s-end c = search (rules, part_outside)

pub returns : goal.returns
returns c = search (rules, part_inside)
