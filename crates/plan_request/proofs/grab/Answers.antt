-- `plan_request::grab` meets its contract, from what its callees ensure. Assumes nothing.
use Rattle.plan_request.proofs.Planned.{best_grabbed}
use Rattle.plan_request.proofs.grab.Goals as goal

pub returns : goal.returns
returns c = best_grabbed _ _ _ _ _ c.best_row.ensures c.grab.ensures
