-- `packet_split::split_none` meets its contract: empty data is no argument, and any other data does not split. Assumes nothing.
use borrow.Author.Tests.{eq-eqb, ne_eqb}
use Rattle.packet.specs.Arguments.{split, ends_of}
use Rattle.packet_split.proofs.split_none.Goals as goal

pub returns-then-d-ne0 : goal.returns-then-d-ne0
unfolding split
returns-then-d-ne0 c = rw (ne_eqb _ _ c.if-d-ne0.true)

pub returns : goal.returns
unfolding split ends_of
returns c = rw (eq-eqb _ _ c.if-d-ne0.false)
