-- `show_packet::put_refused` meets its contract: the reason alone where the header was bad, else after the name of the type.
-- Assumes nothing.
use mathlib.Core.List.{◌++◌}
use Rattle.octets.specs.Bytes.{number_at}
use Rattle.show_names.specs.Names.{name_of, space}
use Rattle.show_packet.specs.Lines.{unreadable_text}
use Rattle.octets.proofs.Runs.{laid_as, laid_third, room_as, room_first, room_second, room_third}
use Rattle.show_packet.proofs.Words.{refused_header, refused_packet}
use Rattle.show_packet.proofs.put_refused.Goals as goal

pub put_unreadable-requires : goal.put_unreadable-requires
put_unreadable-requires c =
    room_as _ _ (refused_header (number_at c.args.packet.now 4) _ c.if-number-lt9.true) _ _ c.requires.1

pub returns-then-number-lt9 : goal.returns-then-number-lt9
returns-then-number-lt9 c = laid_as _ _ (refused_header (number_at c.args.packet.now 4) _ c.if-number-lt9.true) _ _ _ _ c.put_unreadable.ensures

pub number_at-requires : goal.number_at-requires
number_at-requires c = c.requires.0 c.if-number-lt9.false

pub put_name-space-requires : goal.put_name-space-requires
put_name-space-requires c =
    room_first _ (name_of c.number_at.result) (space ++ (unreadable_text c.args.number)) _ (room_as _ _ (refused_packet (number_at c.args.packet.now 4) c.args.number _ c.number_at.ensures c.if-number-lt9.false) _ _ c.requires.1)

pub put-place-requires : goal.put-place-requires
put-place-requires c =
    room_second _ (name_of c.number_at.result) space (unreadable_text c.args.number) _ _ _ c.put_name-space.ensures (room_as _ _ (refused_packet (number_at c.args.packet.now 4) c.args.number _ c.number_at.ensures c.if-number-lt9.false) _ _ c.requires.1)

pub put_unreadable-requires-2 : goal.put_unreadable-requires-2
put_unreadable-requires-2 c =
    room_third _ (name_of c.number_at.result) space (unreadable_text c.args.number) _ _ _ c.put_name-space.ensures _ _ c.put-place.ensures (room_as _ _ (refused_packet (number_at c.args.packet.now 4) c.args.number _ c.number_at.ensures c.if-number-lt9.false) _ _ c.requires.1)

pub returns : goal.returns
returns c =
    laid_as _ _ (refused_packet (number_at c.args.packet.now 4) c.args.number _ c.number_at.ensures c.if-number-lt9.false) _ _ _ _ (laid_third _ (name_of c.number_at.result) space (unreadable_text c.args.number) _ _ _ c.put_name-space.ensures _ _ c.put-place.ensures _ _ c.put_unreadable-2.ensures)
