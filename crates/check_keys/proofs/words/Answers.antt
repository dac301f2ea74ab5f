-- `check_keys::words` meets its contract. Assumes nothing.
use Rattle.check_keys.specs.Keys.{words_at}
use Rattle.check_keys.proofs.words.Goals as goal

pub returns : goal.returns
unfolding words_at
returns c = rw (c.word.ensures, c.word-2.ensures, c.word-3.ensures, c.word-4.ensures)
