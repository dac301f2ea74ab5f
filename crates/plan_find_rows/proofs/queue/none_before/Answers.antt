use Prim.Native.Nat.{◌+◌}
use mathlib.Core.Path.{refl}
use native.Mathlib.Omega.{arith}
use Rattle.server.specs.Sizes.{connection_count}
use Rattle.server.specs.Layout.{row_in}
use Rattle.table_passes.proofs.Tests.{each_on, each_end}
use Rattle.plan_find_rows.specs.Queue.{stays_behind}
use Rattle.plan_find_rows.proofs.queue.none_before.Goals as goal

pub loop-k-init : goal.loop-k-init
loop-k-init c = (omega arith, refl)

pub loop-k-preserved : goal.loop-k-preserved
loop-k-preserved c =
    (omega arith, each_on (λ k. stays_behind c.args.priority c.args.serial (row_in connection_count c.args.table.now (c.args.p + k))) 8 c.loop-k.k c.loop-k.ok _ c.loop-k.invariant.1 (rw c.serial.ensures))

pub returns : goal.returns
returns c =
    each_end (λ k. stays_behind c.args.priority c.args.serial (row_in connection_count c.args.table.now (c.args.p + k))) 8 c.loop-k.k c.loop-k.ok c.loop-k.invariant.1 c.loop-k.invariant.0 (omega arith)
