use Prim.Native.Nat.{◌+◌, ◌*◌}
use mathlib.Core.Path.{◌≡◌, sym, ◌∙◌}
use native.Mathlib.Omega.{arith}
use borrow.Author.Tests.{not-true}
use Rattle.plan_find_rows.proofs.Walk.{best_start, best_end, unable_nowhere}
use Rattle.std.proofs.Common.{ap, not}
use Rattle.plan_find_rows.proofs.best_row.Goals as goal

pub returns-then-not-has : goal.returns-then-not-has
returns-then-not-has c =
    unable_nowhere c.args.table.now c.args.c c.joined.result c.joined.ensures (sym c.has.ensures ∙ not-true _ (ap not c.if-not-has.true))

pub loop-group-init : goal.loop-group-init
loop-group-init c = best_start _ _

pub loop-group-preserved : goal.loop-group-preserved
loop-group-preserved c =
    let e : 8 * c.loop-group.group + 8 ≡ 8 * (c.loop-group.group + 1) = omega arith in
    rw e at c.next_group-v.ensures

pub returns : goal.returns
returns c =
    let e : 8 * c.loop-group.group ≡ 32 = omega arith in
    best_end c.args.table.now c.args.c c.loop-group.v (rw e at c.loop-group.invariant)
