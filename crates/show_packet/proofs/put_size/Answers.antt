-- `show_packet::put_size` meets its contract: the digits, and the word after them, by the number. Assumes nothing.
use mathlib.Core.Bool.{cond}
use lib.Dec.{eqb}
use Rattle.handle.specs.Handle.{decimal}
use Rattle.show_packet.specs.Lines.{byte_word, bytes_word, sized}
use Rattle.octets.proofs.Runs.{laid_as, laid_then, room_as, room_first, room_then}
use Rattle.show_packet.proofs.Words.{size_many, size_one}
use Rattle.show_packet.proofs.put_size.Goals as goal

pub put_number-place-requires : goal.put_number-place-requires
unfolding sized
put_number-place-requires c =
    room_first _ (decimal c.args.count) (cond (eqb c.args.count 1) byte_word bytes_word) _ c.requires.1

pub put-requires : goal.put-requires
put-requires c =
    room_then _ (decimal c.args.count) byte_word _ _ _ c.put_number-place.ensures (room_as _ _ (size_one c.args.count c.if-count-eq1.true) _ _ c.requires.1)

pub returns-then-count-eq1 : goal.returns-then-count-eq1
returns-then-count-eq1 c =
    laid_as _ _ (size_one c.args.count c.if-count-eq1.true) _ _ _ _ (laid_then _ (decimal c.args.count) byte_word _ _ _ c.put_number-place.ensures _ _ c.put.ensures)

pub put-requires-2 : goal.put-requires-2
put-requires-2 c =
    room_then _ (decimal c.args.count) bytes_word _ _ _ c.put_number-place.ensures (room_as _ _ (size_many c.args.count c.if-count-eq1.false) _ _ c.requires.1)

pub returns : goal.returns
returns c =
    laid_as _ _ (size_many c.args.count c.if-count-eq1.false) _ _ _ _ (laid_then _ (decimal c.args.count) bytes_word _ _ _ c.put_number-place.ensures _ _ c.put-2.ensures)
