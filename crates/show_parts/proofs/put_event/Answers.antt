-- `show_parts::put_event` meets its contract: nothing, a connection and its deed, or the request. Assumes nothing.
use Rattle.capture.proofs.Answered.{packet_bounded}
use Rattle.octets.proofs.Runs.{laid_as, laid_none, room_as}
use Rattle.show_parts.proofs.Laid.{close_event, nothing_event, open_event, packet_event}
use mathlib.Core.Path.{ap, ◌∙◌}
use Rattle.std.specs.Prelude.{Some}
use borrow.Author.Rules.{rules}
use Rattle.show_parts.proofs.put_event.Goals as goal

pub put_deed-requires : goal.put_deed-requires
put_deed-requires c = room_as _ _ (open_event _ _ _ (c.in-Some.is ∙ ap Some c.in-Open.is)) _ _ c.requires.1

pub put_deed-requires-in-Close : goal.put_deed-requires-in-Close
put_deed-requires-in-Close c = room_as _ _ (close_event _ _ _ (c.in-Some.is ∙ ap Some c.in-Close.is)) _ _ c.requires.1

pub slice_bounds-put_request-count : goal.slice_bounds-put_request-count
slice_bounds-put_request-count c = search (rules, packet_bounded _ _ _ (c.in-Some.is ∙ ap Some c.in-Packet.is) c.requires.0)

pub slice_bounds-put_request-start : goal.slice_bounds-put_request-start
slice_bounds-put_request-start c = search (rules, packet_bounded _ _ _ (c.in-Some.is ∙ ap Some c.in-Packet.is) c.requires.0)

pub slice_bounds-put_request-end : goal.slice_bounds-put_request-end
slice_bounds-put_request-end c = search (rules, packet_bounded _ _ _ (c.in-Some.is ∙ ap Some c.in-Packet.is) c.requires.0)

pub put_request-requires : goal.put_request-requires
put_request-requires c = room_as _ _ (packet_event _ _ _ _ (c.in-Some.is ∙ ap Some c.in-Packet.is)) _ _ c.requires.1

pub returns-in_default : goal.returns-in_default
returns-in_default c = laid_as _ _ (nothing_event _ _ c.in_default.is) _ _ _ _ (laid_none _ _)

pub returns-in-Open : goal.returns-in-Open
returns-in-Open c = laid_as _ _ (open_event _ _ _ (c.in-Some.is ∙ ap Some c.in-Open.is)) _ _ _ _ c.put_deed.ensures

pub returns-in-Close : goal.returns-in-Close
returns-in-Close c = laid_as _ _ (close_event _ _ _ (c.in-Some.is ∙ ap Some c.in-Close.is)) _ _ _ _ c.put_deed-in-Close.ensures

pub returns-in-Packet : goal.returns-in-Packet
returns-in-Packet c = laid_as _ _ (packet_event _ _ _ _ (c.in-Some.is ∙ ap Some c.in-Packet.is)) _ _ _ _ c.put_request.ensures
