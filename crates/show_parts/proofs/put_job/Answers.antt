-- `show_parts::put_job` meets its contract: nothing, or the job of the serial. Assumes nothing.
use Rattle.octets.proofs.Runs.{laid_as, laid_none, room_as}
use Rattle.show_parts.proofs.Laid.{no_serial_lem, of_serial}
use Rattle.show_parts.proofs.put_job.Goals as goal

pub put_job_of-requires : goal.put_job_of-requires
put_job_of-requires c =
    (c.requires.0, room_as _ _ (of_serial _ _ _ _ _ c.in-Some.is) _ _ c.requires.1)

pub returns-in-None : goal.returns-in-None
returns-in-None c = laid_as _ _ (no_serial_lem _ _ _ _ c.in-None.is) _ _ _ _ (laid_none _ _)

pub returns-in-Some : goal.returns-in-Some
returns-in-Some c = laid_as _ _ (of_serial _ _ _ _ _ c.in-Some.is) _ _ _ _ c.put_job_of.ensures
