use mathlib.Core.Path.{sym, ◌∙◌}
use native.Mathlib.Omega.{arith}
use Rattle.lists.specs.Lists.{numbers}
use Rattle.lists.proofs.Lowest.{lowest_start, number_here, number_on, number_none}
use Rattle.table_texts.proofs.place_of.Invariants.{stands}
use Rattle.table_texts.proofs.place_of.Goals as goal

pub loop-i-init : goal.loop-i-init
loop-i-init c = (omega arith, lowest_start (stands c.args.names.now c.args.name.now) (numbers 0 16))

pub returns-then-stands_at : goal.returns-then-stands_at
returns-then-stands_at c =
    number_here (stands c.args.names.now c.args.name.now) 16 c.loop-i.i c.loop-i.invariant.1 (omega arith) (sym c.stands_at.ensures ∙ c.if-stands_at.true)

pub loop-i-preserved : goal.loop-i-preserved
loop-i-preserved c =
    (omega arith, number_on (stands c.args.names.now c.args.name.now) 16 c.loop-i.i c.loop-i.invariant.1 (omega arith) (sym c.stands_at.ensures ∙ c.if-stands_at.false))

pub returns : goal.returns
returns c =
    number_none (stands c.args.names.now c.args.name.now) 16 c.loop-i.i c.loop-i.invariant.1 (omega arith)
