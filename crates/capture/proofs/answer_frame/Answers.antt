-- `capture::answer_frame` meets its contract: 16, or the call of the frame's event. Assumes nothing.
use Rattle.capture.proofs.Answered.{open_event, close_event, packet_event, packet_bounded, frame_answered, not_a_frame}
use mathlib.Core.Path.{ap, ◌∙◌}
use Rattle.std.specs.Prelude.{Some}
use borrow.Author.Rules.{rules}
use Rattle.capture.proofs.answer_frame.Goals as goal

pub slice_bounds-packet-count : goal.slice_bounds-packet-count
slice_bounds-packet-count c = search (rules, packet_bounded _ _ _ (c.in-Some.is ∙ ap Some c.in-Packet.is) c.requires)

pub slice_bounds-packet-start : goal.slice_bounds-packet-start
slice_bounds-packet-start c = search (rules, packet_bounded _ _ _ (c.in-Some.is ∙ ap Some c.in-Packet.is) c.requires)

pub slice_bounds-packet-end : goal.slice_bounds-packet-end
slice_bounds-packet-end c = search (rules, packet_bounded _ _ _ (c.in-Some.is ∙ ap Some c.in-Packet.is) c.requires)

pub returns-in_default : goal.returns-in_default
returns-in_default c = not_a_frame _ _ _ _ _ c.in_default.is

pub returns-in-Open : goal.returns-in-Open
returns-in-Open c = frame_answered _ _ _ _ _ c.«open».ensures _ (open_event _ _ _ _ c.wide.ensures.0 (c.in-Some.is ∙ ap Some c.in-Open.is))

pub returns-in-Close : goal.returns-in-Close
returns-in-Close c = frame_answered _ _ _ _ _ c.close.ensures _ (close_event _ _ _ _ c.wide-in-Close.ensures.0 (c.in-Some.is ∙ ap Some c.in-Close.is))

pub returns-in-Packet : goal.returns-in-Packet
returns-in-Packet c = frame_answered _ _ _ _ _ c.packet.ensures _ (packet_event _ _ _ _ c.wide-in-Packet.ensures.0 _ (c.in-Some.is ∙ ap Some c.in-Packet.is))
