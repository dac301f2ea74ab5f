-- `replay_line::put_answer` meets its contract: the packets' lines, and right after them the number's. Assumes nothing.
use mathlib.Core.Path.{sym}
use lib.Seq.{length-take-le}
use Rattle.hexadecimal.specs.Hex.{hex}
use Rattle.replay_line.proofs.Digits.{answer_place, answer_laid}
use borrow.Author.Rules.{rules}
use Rattle.replay_line.proofs.put_answer.Goals as goal

pub slice_bounds-put_packets-end : goal.slice_bounds-put_packets-end
slice_bounds-put_packets-end c = sym (length-take-le _ _ c.requires.0)

pub put_packets-end-requires : goal.put_packets-end-requires
put_packets-end-requires c = search (rules, length-take-le _ c.args.output.now c.requires.0)

pub put_line-requires : goal.put_line-requires
unfolding hex
put_line-requires c = search (rules, length-take-le _ c.args.output.now c.requires.0)

pub returns : goal.returns
returns c = search (rules, answer_place, answer_laid)
