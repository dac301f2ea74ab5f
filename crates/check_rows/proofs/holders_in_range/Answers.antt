use Prim.Native.Nat.{ℕ}
use mathlib.Core.Path.{refl, ap}
use native.Mathlib.Omega.{arith}
use borrow.Author.Rules.{rules}
use lib.Dec.{leb}
use Rattle.server.specs.Sizes.{connection_count}
use Rattle.table_passes.proofs.Tests.{each_on, each_end}
use Rattle.check_rows.specs.Rows.{holder_in_range}
use Rattle.check_rows.proofs.holders_in_range.Goals as goal

pub loop-i-init : goal.loop-i-init
loop-i-init c = (omega arith, refl)

pub loop-i-preserved : goal.loop-i-preserved
loop-i-preserved c =
    (omega arith, each_on (holder_in_range c.args.table.now) 32 c.loop-i.i c.loop-i.ok (leb c.holder.result connection_count) c.loop-i.invariant.1 (ap (λ (x : ℕ). leb x connection_count) c.holder.ensures))

pub returns : goal.returns
returns c = search (rules, each_end)
