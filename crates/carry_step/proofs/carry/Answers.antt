-- `carry_step::carry` meets its contract: the change, the step and the ending, each laid over what is there. Assumes nothing.
use mathlib.Core.Path.{◌∙◌}
use borrow.Author.Rules.{rules}
use Rattle.carry_step.proofs.Laid.{forgets_within, step_carried}
use Rattle.carry_step.proofs.carry.Goals as goal

pub put_ending-requires : goal.put_ending-requires
put_ending-requires c =
    (search (rules, c.requires.1), forgets_within _ c.requires.0 _ _ _ _ _ _ c.requires.4 c.requires.5)

pub returns : goal.returns
returns c =
    c.put_ending.ensures ∙ step_carried _ c.requires.0 _ _ _ _ _ _ _ _ c.requires.3 c.requires.4 c.requires.5 c.change_texts.ensures c.put_step.ensures
