-- `plan_find_texts::has_unique` meets its contract, one law for each return. Assumes nothing.
use Rattle.plan_find_texts.proofs.Joining.{other_job, same_job}
use Rattle.plan_find_texts.proofs.has_unique.Goals as goal

pub returns-then-serial-of : goal.returns-then-serial-of
returns-then-serial-of c =
    other_job _ _ _ _ _ _ c.requires.2 c.wide-of.ensures.0 c.if-serial-of.true

pub returns : goal.returns
returns c =
    same_job _ _ _ _ _ _ c.requires.2 c.wide-of.ensures.0 _ c.if-serial-of.false c.unique_at.ensures
