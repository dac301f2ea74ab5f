-- `show_table::put_if` meets its contract: the word, or nothing. Assumes nothing.
use Rattle.octets.proofs.Runs.{laid_as, laid_none, room_as}
use Rattle.show_table.proofs.Connections.{if_not, if_so}
use Rattle.show_table.proofs.put_if.Goals as goal

pub put-requires : goal.put-requires
put-requires c =
    room_as _ _ (if_so _ c.args.word.now c.if-shown.true) _ _ c.requires

pub returns-then-shown : goal.returns-then-shown
returns-then-shown c = laid_as _ _ (if_so _ c.args.word.now c.if-shown.true) _ _ _ _ c.put.ensures

pub returns : goal.returns
returns c = laid_as _ _ (if_not _ c.args.word.now c.if-shown.false) _ _ _ _ (laid_none _ _)
