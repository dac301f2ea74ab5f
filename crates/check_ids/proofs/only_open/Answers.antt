use Rattle.table_passes.proofs.Tests.{each_on, each_end}
use borrow.Author.Rules.{rules}
use Rattle.check_ids.proofs.only_open.Goals as goal

pub loop-i-preserved : goal.loop-i-preserved
loop-i-preserved c = search (rules, each_on)

pub returns : goal.returns
returns c = search (rules, each_end)
