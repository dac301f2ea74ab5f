-- `show_packet::put_refusal` meets its contract: the word, the number, a space and the reason. Assumes nothing.
use mathlib.Core.List.{◌++◌}
use Rattle.handle.specs.Handle.{decimal}
use Rattle.show_names.specs.Names.{reason_of, space}
use Rattle.show_packet.specs.Lines.{refusal_text, refused_word}
use Rattle.octets.proofs.Runs.{laid_then, laid_third, room_first, room_second, room_then, room_third}
use Rattle.show_packet.proofs.put_refusal.Goals as goal

pub put-digits-requires : goal.put-digits-requires
unfolding refusal_text
put-digits-requires c =
    room_first _ refused_word ((decimal c.args.number) ++ (space ++ (reason_of c.args.number))) _ c.requires

pub put_number-space-requires : goal.put_number-space-requires
unfolding refusal_text
put_number-space-requires c =
    room_second _ refused_word (decimal c.args.number) (space ++ (reason_of c.args.number)) _ _ _ c.put-digits.ensures c.requires

pub put-reason-requires : goal.put-reason-requires
unfolding refusal_text
put-reason-requires c =
    room_first _ space (reason_of c.args.number) _ (room_third _ refused_word (decimal c.args.number) (space ++ (reason_of c.args.number)) _ _ _ c.put-digits.ensures _ _ c.put_number-space.ensures c.requires)

pub put_reason-requires : goal.put_reason-requires
unfolding refusal_text
put_reason-requires c =
    room_then _ space (reason_of c.args.number) _ _ _ c.put-reason.ensures (room_third _ refused_word (decimal c.args.number) (space ++ (reason_of c.args.number)) _ _ _ c.put-digits.ensures _ _ c.put_number-space.ensures c.requires)

pub returns : goal.returns
unfolding refusal_text
returns c =
    laid_third _ refused_word (decimal c.args.number) (space ++ (reason_of c.args.number)) _ _ _ c.put-digits.ensures _ _ c.put_number-space.ensures _ _ (laid_then _ space (reason_of c.args.number) _ _ _ c.put-reason.ensures _ _ c.put_reason.ensures)
