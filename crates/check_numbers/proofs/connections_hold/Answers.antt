use lib.Dec.{ltb}
use mathlib.Core.Bool.{Bool, ◌&&◌}
use Prim.Native.Nat.{ℕ, ◌^◌}
use mathlib.Core.Path.{ap₂}
use native.Mathlib.Omega.{arith}
use Rattle.server.specs.Sizes.{connection_count}
use Rattle.table_passes.proofs.Tests.{each_on, each_end}
use Rattle.check_numbers.specs.Numbers.{connection_holds}
use Rattle.check_numbers.proofs.connections_hold.Goals as goal

pub loop-c-preserved : goal.loop-c-preserved
loop-c-preserved c =
    each_on (connection_holds c.args.table.now c.args.used c.args.busy) connection_count c.loop-c.c c.loop-c.ok _ c.loop-c.invariant (rw (c.has-in-loop-c.ensures, c.has.ensures))

pub returns : goal.returns
returns c =
    ap₂ (λ (x : ℕ) (t : Bool). ltb x (2 ^ connection_count) && t) c.from.ensures (each_end (connection_holds c.args.table.now c.args.used c.args.busy) connection_count c.loop-c.c c.loop-c.ok c.loop-c.invariant (omega arith) (omega arith))
