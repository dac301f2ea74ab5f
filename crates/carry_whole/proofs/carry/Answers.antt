-- `carry_whole::carry` meets its contract: the change laid, then the end of the event, which is the final table. Assumes nothing.
use mathlib.Core.Path.{◌∙◌}
use Rattle.carry_whole.proofs.Carried.{carried_bytes}
use Rattle.carry_whole.proofs.carry.Goals as goal

pub returns : goal.returns
returns c =
    c.finish.ensures ∙ carried_bytes _ _ c.requires.0 _ _ _ _ _ c.requires.3 c.change_texts.ensures
