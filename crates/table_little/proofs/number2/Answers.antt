-- `table_little::number2` meets its contract: two bytes, the lowest first, make the layout's number. Assumes nothing.
use Rattle.table_little.proofs.Numbers.{number_two}
use Rattle.table_little.proofs.number2.Goals as goal

pub returns : goal.returns
returns c = number_two _ _ _ c.from_le_bytes.ensures
