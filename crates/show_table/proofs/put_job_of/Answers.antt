-- `show_table::put_job_of` meets its contract: the search answers the place of the serial's job, or that there is none.
-- Assumes nothing.
use mathlib.Core.Path.{sym, ◌∙◌}
use Rattle.octets.proofs.Runs.{laid_as, room_as}
use Rattle.show_table.proofs.Jobs.{serial_found, serial_unfound}
use Rattle.server.specs.Sizes.{connection_count}
use Rattle.show_table.proofs.put_job_of.Goals as goal

pub put_job-requires : goal.put_job-requires
put_job-requires c =
    (c.requires.0, room_as _ _ (serial_found c.args.hub.now connection_count c.args.serial c.args.before c.args.after _ _ (sym c.in-Some.is ∙ c.serial_row-place.ensures) c.row_at.ensures) _ _ c.requires.1)

pub put_absent-requires : goal.put_absent-requires
put_absent-requires c =
    (c.requires.0, room_as _ _ (serial_unfound c.args.hub.now connection_count c.args.serial c.args.before c.args.after (sym c.in-None.is ∙ c.serial_row-place.ensures)) _ _ c.requires.1)

pub returns-in-Some : goal.returns-in-Some
returns-in-Some c =
    laid_as _ _ (serial_found c.args.hub.now connection_count c.args.serial c.args.before c.args.after _ _ (sym c.in-Some.is ∙ c.serial_row-place.ensures) c.row_at.ensures) _ _ _ _ c.put_job.ensures

pub returns-in-None : goal.returns-in-None
returns-in-None c =
    laid_as _ _ (serial_unfound c.args.hub.now connection_count c.args.serial c.args.before c.args.after (sym c.in-None.is ∙ c.serial_row-place.ensures)) _ _ _ _ c.put_absent.ensures
