use Rattle.sets.specs.Sets.{has}
use mathlib.Core.Bool.{Bool, cond}
use Prim.Native.Nat.{ℕ}
use mathlib.Core.Path.{ap, ap₂, ◌∙◌}
use native.Mathlib.Omega.{arith}
use Rattle.sets.proofs.Laws.{zero_has}
use Rattle.table_passes.proofs.Unions.{joins_on, joins_end}
use Rattle.check_numbers.specs.Numbers.{able_if}
use Rattle.check_numbers.proofs.busy.Goals as goal

pub loop-q-init : goal.loop-q-init
loop-q-init c = zero_has

pub loop-q-preserved : goal.loop-q-preserved
loop-q-preserved c =
    let e = c.able_if.ensures ∙ ap₂ (λ (t : Bool) (y : ℕ). cond t y 0) c.has.ensures c.able.ensures in
    λ x. ap (λ (y : ℕ). has y x) c.union-s.ensures ∙ joins_on (able_if c.args.table.now c.args.queued) 16 c.loop-q.q c.loop-q.s c.loop-q.invariant c.able_if.result e x

pub returns : goal.returns
returns c =
    joins_end (able_if c.args.table.now c.args.queued) 16 c.loop-q.q c.loop-q.s c.loop-q.invariant (omega arith) (omega arith)
