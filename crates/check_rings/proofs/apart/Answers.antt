use Rattle.std.proofs.Common.{arith, ◌+◌, ◌/◌}
use Rattle.lists.specs.Lists.{all, numbers}
use Rattle.table_passes.proofs.Tests.{each_on, each_end}
use Rattle.check_rings.specs.Rings.{apart_at}
use Rattle.check_rings.proofs.apart.Goals as goal

pub loop-d-preserved : goal.loop-d-preserved
loop-d-preserved g c =
    λ p says. each_on (λ d. all (apart_at p c.args.w.now (d + 1)) (numbers 0 (g.row.N / 2))) 0 c.loop-d.d c.loop-d.ok _ (c.loop-d.invariant p says) (c.apart_by-ok.ensures p says)

pub returns : goal.returns
returns g c =
    λ p says. each_end (λ d. all (apart_at p c.args.w.now (d + 1)) (numbers 0 (g.row.N / 2))) c.args.reach c.loop-d.d c.loop-d.ok (c.loop-d.invariant p says) (omega arith) (omega arith)
