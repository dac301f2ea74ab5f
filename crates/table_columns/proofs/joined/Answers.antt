use Prim.Native.Nat.{ℕ, ◌+◌, ◌*◌}
use mathlib.Core.Path.{ap, ◌∙◌}
use native.Mathlib.Omega.{arith}
use Rattle.sets.specs.Sets.{has}
use Rattle.sets.proofs.Laws.{zero_has}
use Rattle.server.specs.Layout.{little_at}
use Rattle.table_passes.proofs.Unions.{joins_on, joins_end}
use Rattle.table_columns.proofs.joined.Goals as goal

pub loop-i-init : goal.loop-i-init
loop-i-init c = zero_has

pub loop-i-preserved : goal.loop-i-preserved
loop-i-preserved c = λ x.
    ap (λ (y : ℕ). has y x) c.union-s.ensures ∙ joins_on (λ k. little_at 4 c.args.table.now (c.args.at + 4 * k)) c.args.n c.loop-i.i c.loop-i.s c.loop-i.invariant c.number4.result c.number4.ensures x

pub returns : goal.returns
returns c =
    joins_end (λ k. little_at 4 c.args.table.now (c.args.at + 4 * k)) c.args.n c.loop-i.i c.loop-i.s c.loop-i.invariant (omega arith) (omega arith)
