-- `call_fresh::fresh` meets its contract: a buffer is too short, there is no name, or both are set to zeros and the name is laid.
-- Assumes nothing.
use Rattle.std.proofs.Common.{rules, ap, not}
use Rattle.call_fresh.proofs.Cases.{made_fresh, name_short, no_name, short_table, short_workloads}
use Rattle.call_fresh.proofs.fresh.Goals as goal
use Rattle.call_fresh.proofs.fresh.Goals.{then-table-lt-TABLE_SIZE-via-then-table-lt-TABLE_SIZE as too-short, then-table-lt-TABLE_SIZE-via-else-table-lt-TABLE_SIZE+then-workloads-lt-WORKLOADS_SIZE as no-room, then-table-lt-TABLE_SIZE-via-else-table-lt-TABLE_SIZE+else-workloads-lt-WORKLOADS_SIZE+then-not-is_hub_name as nameless}

pub returns-then-table-lt-TABLE_SIZE : goal.returns-then-table-lt-TABLE_SIZE
returns-then-table-lt-TABLE_SIZE c =
    elim c.then-table-lt-TABLE_SIZE.branch [ too-short w ↦ search (rules, short_table) | no-room w ↦ search (rules, short_workloads) | nameless w ↦ search (rules, no_name) ]

pub put_text-requires : goal.put_text-requires
put_text-requires c =
    (search rules, name_short c.args.name.now c.args.table.now c.args.workloads.now _ c.is_hub_name.ensures (ap not c.if-not-is_hub_name.false))

pub returns : goal.returns
returns c = search (rules, made_fresh)
