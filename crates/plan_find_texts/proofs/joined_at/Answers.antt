-- `plan_find_texts::joined_at` meets its contract, one law for each return. Assumes nothing.
use mathlib.Core.Path.{◌∙◌}
use Rattle.plan_find_texts.specs.Uniques.{joined_at}
use Rattle.plan_find_texts.proofs.Joining.{no_unique, some_unique_lem}
use Rattle.plan_find_texts.proofs.joined_at.Goals as goal

pub returns-then-u-eq0 : goal.returns-then-u-eq0
returns-then-u-eq0 c = no_unique _ _ _ c.if-u-eq0.true

pub returns : goal.returns
returns c =
    rw c.in_ok-function.was (some_unique_lem _ _ _ _ c.if-u-eq0.false c.with_unique.ensures)

pub returns-in_err-function : goal.returns-in_err-function
unfolding joined_at
returns-in_err-function c = c.from_residual.ensures ∙ rw c.in_err-function.was
