-- `table_little::number4` meets its contract: four bytes, the lowest first, make the layout's number. Assumes nothing.
use Rattle.table_little.proofs.Numbers.{number_four}
use Rattle.table_little.proofs.number4.Goals as goal

pub returns : goal.returns
returns c = number_four _ _ _ c.from_le_bytes.ensures
