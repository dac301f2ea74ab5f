-- `plan_ending::grabs` meets its contract: the row that stands there, and the set of its function. Assumes nothing.
use Rattle.server.specs.Sizes.{connection_count}
use Rattle.server.specs.Layout.{table_of}
use Rattle.plan.specs.Values.{values_of}
use Rattle.plan_ending.proofs.Walks.{grab_read}
use Rattle.plan_ending.proofs.grabs.Goals as goal

pub returns : goal.returns
returns c =
    grab_read (values_of (table_of connection_count c.args.table.now)) c.args.c c.args.i _ _ _ c.row_at-r.ensures c.able_at.ensures c.has.ensures
