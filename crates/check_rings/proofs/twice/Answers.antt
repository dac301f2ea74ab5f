use Rattle.std.proofs.Common.{arith, ◌/◌}
use Rattle.table_passes.proofs.Arrays.{written_more}
use Rattle.check_rings.proofs.twice.Goals as goal

pub loop-k-preserved : goal.loop-k-preserved
loop-k-preserved g c =
    λ f says. written_more (g.row.N / 2) f c.loop-k.k c.loop-k.w c.value-x.result (omega arith) (says c.loop-k.k c.value-x.result (omega arith) c.value-x.ensures) (c.loop-k.invariant f says)
