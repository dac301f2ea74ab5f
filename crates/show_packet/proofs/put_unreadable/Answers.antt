-- `show_packet::put_unreadable` meets its contract: the word, the reason, and what closes it. Assumes nothing.
use mathlib.Core.List.{◌++◌}
use Rattle.show_names.specs.Names.{reason_of}
use Rattle.show_packet.specs.Lines.{closing, unreadable_text, unreadable_word}
use Rattle.octets.proofs.Runs.{laid_third, room_first, room_second, room_third}
use Rattle.show_packet.proofs.put_unreadable.Goals as goal

pub put-place-requires : goal.put-place-requires
unfolding unreadable_text
put-place-requires c =
    room_first _ unreadable_word ((reason_of c.args.number) ++ closing) _ c.requires

pub put_reason-end-requires : goal.put_reason-end-requires
unfolding unreadable_text
put_reason-end-requires c =
    room_second _ unreadable_word (reason_of c.args.number) closing _ _ _ c.put-place.ensures c.requires

pub put-requires : goal.put-requires
unfolding unreadable_text
put-requires c =
    room_third _ unreadable_word (reason_of c.args.number) closing _ _ _ c.put-place.ensures _ _ c.put_reason-end.ensures c.requires

pub returns : goal.returns
unfolding unreadable_text
returns c = laid_third _ unreadable_word (reason_of c.args.number) closing _ _ _ c.put-place.ensures _ _ c.put_reason-end.ensures _ _ c.put.ensures
