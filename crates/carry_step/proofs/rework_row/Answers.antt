-- `carry_step::rework_row` meets its contract: that place alone is laid anew. Assumes nothing.
use Rattle.plan.proofs.Sizes.{rows_long}
use Rattle.carry_step.proofs.Reworked.{row_changed}
use Rattle.carry_step.proofs.rework_row.Goals as goal

pub returns : goal.returns
returns c =
    row_changed 32 _ _ _ _ _ _ _ c.requires.0 (rows_long _) c.requires.3 c.row_at-before.ensures c.rework_place.ensures
