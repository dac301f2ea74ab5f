-- `table_rows::read_values` meets its contract: each part is read by itself. Assumes nothing.
use Rattle.plan.specs.Values.{values_of}
use Rattle.table_rows.proofs.read_values.Goals as goal

pub returns : goal.returns
unfolding values_of
returns c = cc
