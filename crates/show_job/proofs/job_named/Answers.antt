-- `show_job::job_named` meets its contract: none for a refusal, and else by the shape of the type. Assumes nothing.
use mathlib.Core.Path.{◌∙◌}
use Rattle.packet.specs.Packet.{direction_of}
use Rattle.show_job.proofs.Named.{named_first, named_none}
use Rattle.show_job.proofs.job_named.Goals as goal

pub returns-in-Err : goal.returns-in-Err
returns-in-Err c = named_none _ (direction_of c.args.side) _ _ c.in-Err.ensures

pub returns-in-Ok : goal.returns-in-Ok
returns-in-Ok c =
    c.handle_in.ensures ∙ named_first _ (direction_of c.args.side) _ _ _ c.in-Ok.ensures _ c.shape_of.ensures
