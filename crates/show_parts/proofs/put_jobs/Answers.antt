-- `show_parts::put_jobs` meets its contract: nothing, the jobs of a close, or those of a packet. Assumes nothing.
use Rattle.capture.proofs.Answered.{packet_bounded}
use Rattle.octets.proofs.Runs.{laid_as, laid_none, room_as}
use Rattle.show_parts.proofs.Laid.{close_jobs_lem, nothing_jobs, open_jobs, packet_jobs_lem}
use mathlib.Core.Path.{ap, ◌∙◌}
use Rattle.std.specs.Prelude.{Some}
use borrow.Author.Rules.{rules}
use Rattle.show_parts.proofs.put_jobs.Goals as goal

pub put_dropped-requires : goal.put_dropped-requires
put_dropped-requires c =
    (c.requires.2, room_as _ _ (close_jobs_lem _ _ _ (c.in-Some.is ∙ ap Some c.in-Close.is) _ _ _ _ _) _ _ c.requires.3)

pub slice_bounds-concerned-count : goal.slice_bounds-concerned-count
slice_bounds-concerned-count c = search (rules, packet_bounded _ _ _ (c.in-Some.is ∙ ap Some c.in-Packet.is) c.requires.0)

pub slice_bounds-concerned-start : goal.slice_bounds-concerned-start
slice_bounds-concerned-start c = search (rules, packet_bounded _ _ _ (c.in-Some.is ∙ ap Some c.in-Packet.is) c.requires.0)

pub slice_bounds-concerned-end : goal.slice_bounds-concerned-end
slice_bounds-concerned-end c = search (rules, packet_bounded _ _ _ (c.in-Some.is ∙ ap Some c.in-Packet.is) c.requires.0)

pub put_ended-requires : goal.put_ended-requires
put_ended-requires c =
    (c.requires.2, room_as _ _ (packet_jobs_lem _ _ _ _ (c.in-Some.is ∙ ap Some c.in-Packet.is) _ _ _ _ _ _ c.concerned-serial.ensures) _ _ c.requires.3)

pub returns-in_default : goal.returns-in_default
returns-in_default c = laid_as _ _ (nothing_jobs _ _ c.in_default.is _ _ _ _ _) _ _ _ _ (laid_none _ _)

pub returns-in-Open : goal.returns-in-Open
returns-in-Open c = laid_as _ _ (open_jobs _ _ _ (c.in-Some.is ∙ ap Some c.in-Open.is) _ _ _ _ _) _ _ _ _ (laid_none _ _)

pub returns-in-Close : goal.returns-in-Close
returns-in-Close c = laid_as _ _ (close_jobs_lem _ _ _ (c.in-Some.is ∙ ap Some c.in-Close.is) _ _ _ _ _) _ _ _ _ c.put_dropped.ensures

pub returns-in-Packet : goal.returns-in-Packet
returns-in-Packet c = laid_as _ _ (packet_jobs_lem _ _ _ _ (c.in-Some.is ∙ ap Some c.in-Packet.is) _ _ _ _ _ _ c.concerned-serial.ensures) _ _ _ _ c.put_ended.ensures
