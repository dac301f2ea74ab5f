use Rattle.table_passes.proofs.Tests.{each_on, each_end}
use Rattle.check_numbers.proofs.Functions.{equal_agree}
use Rattle.check_numbers.specs.Numbers.{is_defined}
use borrow.Author.Rules.{rules}
use Rattle.check_numbers.proofs.functions_defined.Goals as goal

pub loop-q-preserved : goal.loop-q-preserved
loop-q-preserved c =
    each_on (is_defined c.args.table.now c.args.named) 16 c.loop-q.q c.loop-q.ok _ c.loop-q.invariant (rw (c.has.ensures, c.able.ensures) (equal_agree _ _))

pub returns : goal.returns
returns c = search (rules, each_end)
