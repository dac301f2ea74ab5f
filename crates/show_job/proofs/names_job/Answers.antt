-- `show_job::names_job` meets its contract: a computed test shows that each shape of an arm, by its number, begins with a handle or
-- does not, as the arm says. Assumes nothing.
use mathlib.Core.List.{[], ◌∷◌}
use Rattle.packet_kinds.proofs.Tests.{bools}
use Rattle.packet_kinds.proofs.Shapes.{shape_arm}
use Rattle.show_job.specs.Concerned.{names_job}
use Rattle.show_job.proofs.names_job.Goals as goal

pub returns-in-WorkStatus : goal.returns-in-WorkStatus
returns-in-WorkStatus c = shape_arm bools names_job c.args.shape (4 ∷ 5 ∷ 6 ∷ 10 ∷ 11 ∷ 13 ∷ []) tt c.in-WorkStatus.in-WorkStatus-own.keys1
