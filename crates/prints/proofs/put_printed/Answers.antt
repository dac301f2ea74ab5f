use native.Mathlib.Omega.{arith}
use Rattle.prints.proofs.Printed.{length_printed}
use Rattle.prints.proofs.Laying.{laid_all, laid_end, laid_more, laid_none}
use borrow.Author.Rules.{rules}
use Rattle.prints.proofs.put_printed.Goals as goal

pub loop-i-init : goal.loop-i-init
loop-i-init c = search (rules, laid_none)

pub bounds-out-at : goal.bounds-out-at
bounds-out-at c = omega (arith, length_printed c.args.text.now)

pub loop-i-preserved : goal.loop-i-preserved
loop-i-preserved c = search (rules, laid_more)

pub returns : goal.returns
returns c = search (rules, laid_end, laid_all)
