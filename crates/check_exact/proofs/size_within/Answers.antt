-- `check_exact::size_within` meets its contract: the three lengths are those that the rule adds up. Assumes nothing.
use Rattle.check_exact.proofs.size_within.Goals as goal

pub returns : goal.returns
returns c = rw (c.name_length.ensures.0, c.unique_length.ensures.0, c.from.ensures, c.size.ensures)
