-- `check_keys::word` meets its contract: each half is a number of four bytes, so that the word fits. Assumes nothing.
use Rattle.check_keys.specs.Keys.{word_at}
use Rattle.check_keys.proofs.word.Goals as goal

pub returns : goal.returns
unfolding word_at
returns c = rw (c.from.ensures, c.from-2.ensures, c.number4.ensures, c.number4-2.ensures)
