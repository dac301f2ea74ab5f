-- `table_rows::last` meets its contract: it is read at its place. Assumes nothing.
use Rattle.plan.specs.Values.{values_of}
use Rattle.server.specs.Layout.{table_of}
use Rattle.table_rows.proofs.last.Goals as goal

pub returns : goal.returns
unfolding values_of table_of
returns c = c.number4.ensures
