-- `plan_request::held` meets its contract, by the cases of the handle. Assumes nothing.
use mathlib.Core.Path.{sym, ◌∙◌}
use Rattle.plan_request.proofs.Planned.{held_found, held_nothing}
use Rattle.plan_request.proofs.held.Goals as goal

pub returns-in-Some : goal.returns-in-Some
returns-in-Some c =
    held_found _ _ _ c.hub_of.ensures c.requires.0 _ _ _ (sym c.serial_of.ensures ∙ c.in-Some.is) c.held_row.ensures

pub returns-in-None : goal.returns-in-None
returns-in-None c =
    held_nothing _ _ _ c.hub_of.ensures c.requires.0 _ (sym c.serial_of.ensures ∙ c.in-None.is)
