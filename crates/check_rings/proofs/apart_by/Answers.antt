use Rattle.std.proofs.Common.{slice_index_or}
use Rattle.table_passes.proofs.Tests.{each_on}
use Rattle.check_rings.specs.Rings.{apart_at}
use Rattle.check_rings.proofs.apart_by.Goals as goal

pub loop-i-preserved : goal.loop-i-preserved
loop-i-preserved g c =
    λ p says. each_on (apart_at p c.args.w.now c.args.d) 0 c.loop-i.i c.loop-i.ok _ (c.loop-i.invariant p says)
    (rw (says (slice_index_or c.args.w.now c.loop-i.i 0) c.out.result c.out.ensures))
