use native.Mathlib.Omega.{arith}
use Rattle.handle.proofs.Printing.{count_last, count_on, count_end}
use Rattle.handle.proofs.count_digits.Goals as goal

pub returns-then-left-lt10 : goal.returns-then-left-lt10
returns-then-left-lt10 c = (count_last _ _ c.loop-count.left c.loop-count.count c.loop-count.invariant (omega arith) (omega arith), omega arith)

pub loop-count-preserved : goal.loop-count-preserved
loop-count-preserved c = count_on _ _ c.loop-count.left c.loop-count.count c.loop-count.invariant (omega arith) (omega arith)

pub returns : goal.returns
returns c = (omega (arith, count_end _ _ c.loop-count.left c.loop-count.count c.loop-count.invariant (omega arith)), omega arith)
