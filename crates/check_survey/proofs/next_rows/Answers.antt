-- The walk ends eight rows on.
use Prim.Native.Nat.{◌+◌}
use mathlib.Core.Path.{◌≡◌}
use native.Mathlib.Omega.{arith}
use Rattle.check_survey.proofs.next_rows.Goals as goal

pub returns : goal.returns
returns c =
    let e : c.loop-i.i ≡ c.args.p + 8 = omega arith in
    rw e at c.loop-i.invariant
