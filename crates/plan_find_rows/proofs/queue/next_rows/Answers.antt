use Prim.Native.Nat.{◌+◌}
use mathlib.Core.Path.{◌≡◌}
use native.Mathlib.Omega.{arith}
use Rattle.plan_find_rows.proofs.queue.next_rows.Goals as goal

pub loop-i-preserved : goal.loop-i-preserved
loop-i-preserved c = (omega arith, omega arith, c.next_row-v.ensures)

pub returns : goal.returns
returns c =
    let e : c.loop-i.i ≡ c.args.p + 8 = omega arith in
    rw e at c.loop-i.invariant.2
