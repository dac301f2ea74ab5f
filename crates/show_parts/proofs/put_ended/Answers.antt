-- `show_parts::put_ended` meets its contract: the job that is gone, and the job of the serial. Assumes nothing.
use Rattle.octets.proofs.Runs.{laid_then, room_first, room_then}
use Rattle.show_table.specs.Standing.{gone_text}
use Rattle.show_parts.specs.Parts.{ended_word, named_text, packet_jobs}
use Rattle.show_parts.proofs.put_ended.Goals as goal

pub put_gone-place-requires : goal.put_gone-place-requires
unfolding packet_jobs
put_gone-place-requires c =
    (c.requires.0, room_first _ (gone_text c.args.hub.now ended_word c.args.before c.args.after) (named_text c.args.hub.now c.args.serial c.args.before c.args.after) _ c.requires.1)

pub put_job-requires : goal.put_job-requires
unfolding packet_jobs
put_job-requires c =
    (c.requires.0, room_then _ (gone_text c.args.hub.now ended_word c.args.before c.args.after) (named_text c.args.hub.now c.args.serial c.args.before c.args.after) _ _ _ c.put_gone-place.ensures c.requires.1)

pub returns : goal.returns
unfolding packet_jobs
returns c =
    laid_then _ (gone_text c.args.hub.now ended_word c.args.before c.args.after) (named_text c.args.hub.now c.args.serial c.args.before c.args.after) _ _ _ c.put_gone-place.ensures _ _ c.put_job.ensures
