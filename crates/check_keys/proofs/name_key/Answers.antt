-- `check_keys::name_key` meets its contract. Assumes nothing.
use borrow.Author.Tests.{ne_eqb}
use Rattle.check_keys.specs.Keys.{name_key}
use Rattle.check_keys.proofs.name_key.Goals as goal

pub returns-then-table-q-eq0 : goal.returns-then-table-q-eq0
unfolding name_key
returns-then-table-q-eq0 c = rw c.if-table-q-eq0.true

pub returns : goal.returns
unfolding name_key
returns c = rw (ne_eqb _ 0 c.if-table-q-eq0.false, c.folded.ensures, c.words.ensures)
