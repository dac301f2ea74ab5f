-- `show_packet::put_value` meets its contract: the length of an opaque argument, and the bytes of any other. Assumes nothing.
use Rattle.octets.proofs.Runs.{laid_as, room_as}
use Rattle.show_packet.proofs.Words.{value_opaque, value_visible}
use Rattle.show_packet.proofs.put_value.Goals as goal

pub put_size-requires : goal.put_size-requires
put_size-requires c =
    (c.requires.0, room_as _ _ (value_opaque _ c.args.a.now c.in-Opaque.is) _ _ c.requires.1)

pub put_printed_or-requires : goal.put_printed_or-requires
put_printed_or-requires c =
    room_as _ _ (value_visible c.args.rule _ c.in_default.not-Opaque) _ _ c.requires.1

pub returns-in-Opaque : goal.returns-in-Opaque
returns-in-Opaque c = laid_as _ _ (value_opaque _ c.args.a.now c.in-Opaque.is) _ _ _ _ c.put_size.ensures

pub returns-in_default : goal.returns-in_default
returns-in_default c = laid_as _ _ (value_visible c.args.rule _ c.in_default.not-Opaque) _ _ _ _ c.put_printed_or.ensures
