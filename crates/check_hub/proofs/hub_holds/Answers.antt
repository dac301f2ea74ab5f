-- `check_hub::hub_holds` meets its contract: the bytes behind the text of the name's place are zero, or it is not padded; then the name decides.
-- Assumes nothing.
use Rattle.std.proofs.Common.{arith, ◌∙◌}
use Rattle.check_hub.proofs.Hub.{name_inside, slack_bad, name_decides}
use Rattle.check_hub.proofs.hub_holds.Goals as goal

pub overflow_sub-name : goal.overflow_sub-name
overflow_sub-name c = omega (arith, name_inside c.args.table.now c.requires _ c.hub_of-name.ensures)

pub zeros-requires : goal.zeros-requires
zeros-requires c = omega (arith, name_inside c.args.table.now c.requires _ c.hub_of-name.ensures)

pub returns-then-zeros : goal.returns-then-zeros
returns-then-zeros c = name_decides c.args.table.now c.requires _ c.hub_of-name.ensures _ _ c.zeros.ensures c.if-zeros.true c.is_hub_name.ensures

pub returns-else-zeros : goal.returns-else-zeros
returns-else-zeros c = c.if-zeros.false ∙ slack_bad c.args.table.now c.requires _ c.hub_of-name.ensures _ c.zeros.ensures c.if-zeros.false
