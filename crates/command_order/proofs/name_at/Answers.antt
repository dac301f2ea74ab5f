-- `command_order::name_at` meets its contract: the text of the place, and nothing beyond the last. Assumes nothing.
use mathlib.Core.Path.{◌∙◌}
use Rattle.command_order.proofs.Names.{name_beyond, name_inside}
use Rattle.command_order.proofs.name_at.Goals as goal

pub returns-then-q-ge-FUNCTIONS : goal.returns-then-q-ge-FUNCTIONS
returns-then-q-ge-FUNCTIONS c = name_beyond _ _ c.if-q-ge-FUNCTIONS.true

pub returns : goal.returns
returns c =
    c.text.ensures ∙ name_inside c.args.table.now c.args.q c.if-q-ge-FUNCTIONS.false
