-- `show_parts::put_seen` meets its contract: nothing, or the digits of each kind of frame. Assumes nothing.
use Rattle.capture.proofs.Answered.{packet_bounded}
use Rattle.octets.proofs.Runs.{laid_as, laid_none, room_as}
use Rattle.show_parts.proofs.Laid.{close_digits, nothing_digits, open_digits, packet_digits}
use mathlib.Core.Path.{ap, ◌∙◌}
use Rattle.std.specs.Prelude.{Some}
use borrow.Author.Rules.{rules}
use Rattle.show_parts.proofs.put_seen.Goals as goal

pub put_digits-requires : goal.put_digits-requires
put_digits-requires c = room_as _ _ (open_digits _ _ _ (c.in-Some.is ∙ ap Some c.in-Open.is)) _ _ c.requires.1

pub put_digits-requires-in-Close : goal.put_digits-requires-in-Close
put_digits-requires-in-Close c = room_as _ _ (close_digits _ _ _ (c.in-Some.is ∙ ap Some c.in-Close.is)) _ _ c.requires.1

pub slice_bounds-header_seen-count : goal.slice_bounds-header_seen-count
slice_bounds-header_seen-count c = search (rules, packet_bounded _ _ _ (c.in-Some.is ∙ ap Some c.in-Packet.is) c.requires.0)

pub slice_bounds-header_seen-start : goal.slice_bounds-header_seen-start
slice_bounds-header_seen-start c = search (rules, packet_bounded _ _ _ (c.in-Some.is ∙ ap Some c.in-Packet.is) c.requires.0)

pub slice_bounds-header_seen-end : goal.slice_bounds-header_seen-end
slice_bounds-header_seen-end c = search (rules, packet_bounded _ _ _ (c.in-Some.is ∙ ap Some c.in-Packet.is) c.requires.0)

pub put_digits-requires-in-Packet : goal.put_digits-requires-in-Packet
put_digits-requires-in-Packet c = room_as _ _ (packet_digits _ _ _ _ (c.in-Some.is ∙ ap Some c.in-Packet.is) _ c.header_seen.ensures) _ _ c.requires.1

pub returns-in_default : goal.returns-in_default
returns-in_default c = laid_as _ _ (nothing_digits _ _ c.in_default.is) _ _ _ _ (laid_none _ _)

pub returns-in-Open : goal.returns-in-Open
returns-in-Open c = laid_as _ _ (open_digits _ _ _ (c.in-Some.is ∙ ap Some c.in-Open.is)) _ _ _ _ c.put_digits.ensures

pub returns-in-Close : goal.returns-in-Close
returns-in-Close c = laid_as _ _ (close_digits _ _ _ (c.in-Some.is ∙ ap Some c.in-Close.is)) _ _ _ _ c.put_digits-in-Close.ensures

pub returns-in-Packet : goal.returns-in-Packet
returns-in-Packet c = laid_as _ _ (packet_digits _ _ _ _ (c.in-Some.is ∙ ap Some c.in-Packet.is) _ c.header_seen.ensures) _ _ _ _ c.put_digits-in-Packet.ensures
