-- `show_parts::put_outcome` meets its contract: the start of a line, and that the event is done, or the refusal. Assumes nothing.
use mathlib.Core.Bool.{cond}
use lib.Dec.{eqb}
use Rattle.octets.proofs.Runs.{laid_as, laid_then, room_as, room_first, room_then}
use Rattle.show_packet.specs.Lines.{refusal_text}
use Rattle.show_table.specs.Standing.{below}
use Rattle.show_parts.specs.Parts.{done_word, number_text}
use Rattle.show_parts.proofs.Laid.{number_done, number_refused}
use Rattle.show_parts.proofs.put_outcome.Goals as goal

pub put-place-requires : goal.put-place-requires
unfolding number_text
put-place-requires c = room_first _ below (cond (eqb c.args.number 0) done_word (refusal_text c.args.number)) _ c.requires

pub put-requires : goal.put-requires
put-requires c = room_then _ below done_word _ _ _ c.put-place.ensures (room_as _ _ (number_done _ c.if-number-eq0.true) _ _ c.requires)

pub returns-then-number-eq0 : goal.returns-then-number-eq0
returns-then-number-eq0 c = laid_as _ _ (number_done _ c.if-number-eq0.true) _ _ _ _ (laid_then _ below done_word _ _ _ c.put-place.ensures _ _ c.put.ensures)

pub put_refusal-requires : goal.put_refusal-requires
put_refusal-requires c = room_then _ below (refusal_text c.args.number) _ _ _ c.put-place.ensures (room_as _ _ (number_refused _ c.if-number-eq0.false) _ _ c.requires)

pub returns : goal.returns
returns c = laid_as _ _ (number_refused _ c.if-number-eq0.false) _ _ _ _ (laid_then _ below (refusal_text c.args.number) _ _ _ c.put-place.ensures _ _ c.put_refusal.ensures)
