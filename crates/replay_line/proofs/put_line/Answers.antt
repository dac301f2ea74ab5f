-- `replay_line::put_line` meets its contract: the digits, and right after them the line end. Assumes nothing.
use Rattle.replay_line.proofs.Digits.{digits_room, line_room, line_place, line_laid}
use borrow.Author.Rules.{rules}
use Rattle.replay_line.proofs.put_line.Goals as goal

pub put_hex-end-requires : goal.put_hex-end-requires
put_hex-end-requires c = search (rules, digits_room)

pub put-requires : goal.put-requires
put-requires c = search (rules, line_room)

pub returns : goal.returns
returns c = search (rules, line_place, line_laid)
