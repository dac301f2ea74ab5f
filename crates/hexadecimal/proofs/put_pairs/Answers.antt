use borrow.Author.Rules.{rules}
use Rattle.hexadecimal.proofs.Reading.{pairs_none, pairs_more, pairs_all}
use Rattle.hexadecimal.proofs.put_pairs.Goals as goal

pub loop-i-init : goal.loop-i-init
loop-i-init c = search (rules, pairs_none)

pub loop-i-preserved : goal.loop-i-preserved
loop-i-preserved c = search (rules, pairs_more)

pub returns : goal.returns
returns c = search (rules, pairs_all)
