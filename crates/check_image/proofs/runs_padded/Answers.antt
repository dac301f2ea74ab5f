-- Each run stands where the one before it ends, and the four runs together are all places.
use Prim.Native.Nat.{◌+◌, ◌*◌, ◌/◌}
use mathlib.Core.Path.{◌∙◌}
use native.Mathlib.Omega.{arith}
use Rattle.table_laws.specs.Tests.{are_padded}
use Rattle.table_passes.proofs.Tests.{each_on, each_end}
use Rattle.check_image.proofs.Places.{run_after_run}
use Rattle.check_image.proofs.runs_padded.Goals as goal

pub loop-i-preserved : goal.loop-i-preserved
loop-i-preserved g c =
    each_on (λ k. are_padded g.row.W (64 / g.row.W * g.row.B) c.args.table.now (c.args.at + 64 * g.row.B * k)) 4 c.loop-i.i c.loop-i.ok _ c.loop-i.invariant c.run_padded-ok.ensures

pub returns : goal.returns
returns g c =
    each_end (λ k. are_padded g.row.W (64 / g.row.W * g.row.B) c.args.table.now (c.args.at + 64 * g.row.B * k)) 4 c.loop-i.i c.loop-i.ok c.loop-i.invariant (omega arith) (omega arith)
    ∙ run_after_run g.row.W g.row.B c.requires.1 c.args.table.now c.args.at 4
