-- `plan_request::found` meets its contract, by the cases of the handle. Assumes nothing.
use mathlib.Core.Path.{sym, ◌∙◌}
use Rattle.plan_request.proofs.Planned.{job_found, job_none}
use Rattle.plan_request.proofs.found.Goals as goal

pub returns-in-Some : goal.returns-in-Some
returns-in-Some c =
    job_found _ _ _ c.hub_of.ensures c.requires.0 _ _ (sym c.serial_of.ensures ∙ c.in-Some.is) c.serial_row.ensures

pub returns-in-None : goal.returns-in-None
returns-in-None c =
    job_none _ _ _ c.hub_of.ensures c.requires.0 (sym c.serial_of.ensures ∙ c.in-None.is)
