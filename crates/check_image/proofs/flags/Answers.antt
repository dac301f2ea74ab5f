use Prim.Native.Nat.{◌+◌}
use mathlib.Core.Path.{refl, ◌∙◌, sym}
use native.Mathlib.Omega.{arith}
use borrow.Author.Rules.{rules}
use lib.ListN.{get_or}
use lib.Dec.{leb}
use Rattle.table_passes.proofs.Tests.{each_on, each_end}
use Rattle.check_image.proofs.Places.{flags_each}
use Rattle.check_image.proofs.flags.Goals as goal

pub loop-k-init : goal.loop-k-init
loop-k-init c = refl

pub loop-k-preserved : goal.loop-k-preserved
loop-k-preserved c = search (rules, each_on)

pub returns : goal.returns
returns c =
    each_end (λ i. leb (get_or c.args.table.now (c.args.at + i) 0) 1) c.args.n c.loop-k.k c.loop-k.ok c.loop-k.invariant (omega arith) (omega arith) ∙ sym (flags_each c.args.n c.args.table.now c.args.at (omega arith))
