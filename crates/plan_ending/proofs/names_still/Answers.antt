-- `plan_ending::names_still` meets its contract: a job that is over names nothing, and the others are as they stand. Assumes nothing.
use mathlib.Core.Path.{◌∙◌, ap}
use Rattle.server.specs.Sizes.{connection_count}
use Rattle.server.specs.Layout.{table_of}
use Rattle.server.specs.Table.{names}
use Rattle.plan.specs.Values.{values_of}
use Rattle.plan.proofs.Sizes.{rows_long}
use Rattle.plan_ending.proofs.Walks.{names_none, names_other}
use Rattle.plan_ending.proofs.names_still.Goals as goal

pub returns-then-i-over : goal.returns-then-i-over
returns-then-i-over c =
    names_none (values_of (table_of connection_count c.args.table.now)).rows c.args.q _ _ (rw (rows_long c.args.table.now) c.requires.1) c.if-i-over.true

pub returns : goal.returns
returns c =
    ap (names c.args.q) c.row_at-r.ensures ∙ names_other (values_of (table_of connection_count c.args.table.now)).rows c.args.q c.args.over c.args.i c.if-i-over.false
