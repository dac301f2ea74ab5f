use borrow.Author.Rules.{rules}
use Rattle.hexadecimal.proofs.Writing.{hex_room, hex_none, hex_more, hex_place, hex_all}
use Rattle.hexadecimal.proofs.put_hex.Goals as goal

pub loop-x-init : goal.loop-x-init
loop-x-init c = search (rules, hex_room, hex_none)

pub loop-x-preserved : goal.loop-x-preserved
loop-x-preserved c = search (rules, hex_more)

pub returns : goal.returns
returns c = search (rules, hex_place, hex_all)
