-- The flag stays what the bytes passed say, since each step adds one.
use mathlib.Core.Path.{refl}
use lib.ListN.{get_or}
use lib.Dec.{eqb}
use Rattle.table_passes.proofs.Tests.{each_on}
use Rattle.table_texts.specs.Places.{agree}
use Rattle.table_texts.proofs.agree.Goals as goal

pub loop-i-init : goal.loop-i-init
unfolding agree
loop-i-init g c = refl

pub loop-i-preserved : goal.loop-i-preserved
unfolding agree
loop-i-preserved g c = each_on (λ k. eqb (get_or c.args.s.now k 0) (get_or c.args.t.now k 0)) g.row.N c.loop-i.i c.loop-i.ok _ c.loop-i.invariant refl
