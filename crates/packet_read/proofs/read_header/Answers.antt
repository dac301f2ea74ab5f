-- `packet_read::read_header` meets its contract: each test is the next of the definition's, in number order. Assumes nothing.
use Rattle.packet_read.proofs.Reading.{header_5, header_6, header_7, header_8, header_good}
use borrow.Author.Rules.{rules}
use Rattle.packet_read.proofs.read_header.Goals as goal

pub returns-then-s-lt12 : goal.returns-then-s-lt12
returns-then-s-lt12 c = search (rules, header_5)

pub returns-then-not-starts_with : goal.returns-then-not-starts_with
returns-then-not-starts_with c = search (rules, header_6)

pub returns-then-most-size : goal.returns-then-most-size
returns-then-most-size c = search (rules, header_7)

pub returns-then-s-size : goal.returns-then-s-size
returns-then-s-size c = search (rules, header_8)

pub returns : goal.returns
returns c = search (rules, header_good)
