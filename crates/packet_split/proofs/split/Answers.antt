-- `packet_split::split` meets its contract: a shape with no rule asks for empty data, and any other is split from its first rule on.
-- Assumes nothing.
use Rattle.packet_split.proofs.Splitting.{none_asked}
use borrow.Author.Rules.{rules}
use Rattle.packet_split.proofs.split.Goals as goal

pub returns-then-count_of-eq0 : goal.returns-then-count_of-eq0
returns-then-count_of-eq0 c = search (rules, none_asked)
