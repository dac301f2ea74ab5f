use borrow.Author.Rules.{rules}
use Rattle.table_passes.proofs.Tests.{each_on, each_end}
use Rattle.check_texts.specs.Stored.{size_small}
use Rattle.check_texts.proofs.sizes_small.Goals as goal

pub loop-i-preserved : goal.loop-i-preserved
loop-i-preserved c =
    each_on (size_small c.args.table.now) 32 c.loop-i.i c.loop-i.ok _ c.loop-i.invariant (rw c.size.ensures)

pub returns : goal.returns
returns c = search (rules, each_end)
