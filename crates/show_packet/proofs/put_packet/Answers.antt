-- `show_packet::put_packet` meets its contract: the name, and then the arguments. Assumes nothing.
use lib.ListN.{length}
use Rattle.packet.specs.Layout.{rules_of}
use Rattle.packet.specs.Answers.{argument_at}
use Rattle.show_names.specs.Names.{name_of}
use Rattle.show_packet.specs.Lines.{argument_texts, packet_text}
use Rattle.octets.proofs.Runs.{laid_then, room_first, room_then}
use Rattle.show_packet.proofs.put_packet.Goals as goal

pub put_name-place-requires : goal.put_name-place-requires
unfolding packet_text
put_name-place-requires c =
    room_first _ (name_of c.args.kind) (argument_texts c.args.shape (argument_at c.args.packet.now c.args.ends) (length (rules_of c.args.shape))) _ c.requires.1

pub put_arguments-requires : goal.put_arguments-requires
unfolding packet_text
put_arguments-requires c =
    (c.requires.0, room_then _ (name_of c.args.kind) (argument_texts c.args.shape (argument_at c.args.packet.now c.args.ends) (length (rules_of c.args.shape))) _ _ _ c.put_name-place.ensures c.requires.1)

pub returns : goal.returns
unfolding packet_text
returns c =
    laid_then _ (name_of c.args.kind) (argument_texts c.args.shape (argument_at c.args.packet.now c.args.ends) (length (rules_of c.args.shape))) _ _ _ c.put_name-place.ensures _ _ c.put_arguments.ensures
