-- `check_keys::unique_key` meets its contract. Assumes nothing.
use borrow.Author.Tests.{ne_eqb}
use Rattle.check_keys.specs.Keys.{unique_key, folded_unique}
use Rattle.check_keys.proofs.unique_key.Goals as goal

pub returns-then-table-p-eq0 : goal.returns-then-table-p-eq0
unfolding unique_key
returns-then-table-p-eq0 c = rw c.if-table-p-eq0.true

pub returns : goal.returns
unfolding unique_key folded_unique
returns c =
    rw (ne_eqb _ 0 c.if-table-p-eq0.false, c.folded-text.ensures, c.words-2.ensures, c.words.ensures, c.from.ensures)
