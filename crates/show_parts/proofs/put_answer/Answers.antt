-- `show_parts::put_answer` meets its contract: the packets, and right after them the number. Assumes nothing.
use Rattle.octets.proofs.Runs.{laid_then, room_then}
use Rattle.show_parts.specs.Parts.{answer_text}
use Rattle.show_parts.proofs.put_answer.Goals as goal

pub put_outcome-requires : goal.put_outcome-requires
unfolding answer_text
put_outcome-requires c = room_then _ _ _ _ _ _ c.put_packets-outcome.ensures c.requires.2

pub returns : goal.returns
unfolding answer_text
returns c = laid_then _ _ _ _ _ _ c.put_packets-outcome.ensures _ _ c.put_outcome.ensures
