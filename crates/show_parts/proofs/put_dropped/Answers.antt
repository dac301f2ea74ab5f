-- `show_parts::put_dropped` meets its contract: the jobs that are gone and those that are left, or nothing. Assumes nothing.
use Rattle.octets.proofs.Runs.{laid_as, laid_none, laid_then, room_as, room_first, room_then}
use Rattle.server.specs.Sizes.{connection_count}
use Rattle.show_table.specs.Standing.{gone_text, jobs_text}
use Rattle.show_parts.specs.Parts.{dropped_word}
use Rattle.show_parts.proofs.Laid.{close_done, close_refused}
use Rattle.show_parts.proofs.put_dropped.Goals as goal

pub put_gone-place-requires : goal.put_gone-place-requires
put_gone-place-requires c =
    (c.requires.0, room_first _ (gone_text c.args.hub.now dropped_word c.args.before c.args.after) (jobs_text c.args.hub.now connection_count c.args.after) _ (room_as _ _ (close_done c.args.hub.now _ c.args.before c.args.after c.if-number-eq0.true) _ _ c.requires.1))

pub put_jobs-requires : goal.put_jobs-requires
put_jobs-requires c =
    (c.requires.0, room_then _ (gone_text c.args.hub.now dropped_word c.args.before c.args.after) (jobs_text c.args.hub.now connection_count c.args.after) _ _ _ c.put_gone-place.ensures (room_as _ _ (close_done c.args.hub.now _ c.args.before c.args.after c.if-number-eq0.true) _ _ c.requires.1))

pub returns-then-number-eq0 : goal.returns-then-number-eq0
returns-then-number-eq0 c =
    laid_as _ _ (close_done c.args.hub.now _ c.args.before c.args.after c.if-number-eq0.true) _ _ _ _ (laid_then _ (gone_text c.args.hub.now dropped_word c.args.before c.args.after) (jobs_text c.args.hub.now connection_count c.args.after) _ _ _ c.put_gone-place.ensures _ _ c.put_jobs.ensures)

pub returns : goal.returns
returns c =
    laid_as _ _ (close_refused c.args.hub.now _ c.args.before c.args.after c.if-number-eq0.false) _ _ _ _ (laid_none _ _)
