-- `check_exact::name_length` meets its contract: past the last function there is no name. Assumes nothing.
use Rattle.std.proofs.Common.{arith}
use Rattle.check_exact.proofs.Texts.{text_within_lem, name_length, no_name}
use Rattle.check_exact.proofs.name_length.Goals as goal

pub returns-then-q-lt-FUNCTIONS : goal.returns-then-q-lt-FUNCTIONS
returns-then-q-lt-FUNCTIONS c = (rw c.from-q.ensures at (name_length _ _ _ c.name.ensures c.if-q-lt-FUNCTIONS.true), text_within_lem _ 32 _ _ c.name.ensures)

pub returns-else-q-lt-FUNCTIONS : goal.returns-else-q-lt-FUNCTIONS
returns-else-q-lt-FUNCTIONS c = (rw c.from-q.ensures at (no_name c.args.table.now c.from-q.result c.if-q-lt-FUNCTIONS.false), omega arith)
