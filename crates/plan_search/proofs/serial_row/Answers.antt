use mathlib.Core.Path.{sym, ◌∙◌}
use native.Mathlib.Omega.{arith}
use Rattle.server.specs.Table.{no_row}
use Rattle.plan.specs.Values.{serial_row}
use Rattle.lists.proofs.Lowest.{lowest_start, lowest_here, lowest_on, lowest_none}
use Rattle.plan_search.proofs.serial_row.Invariants.{numbered}
use Rattle.plan_search.proofs.serial_row.Goals as goal

pub loop-i-init : goal.loop-i-init
loop-i-init c = lowest_start (numbered c.args.serial) c.args.rows

pub returns-then-has_serial : goal.returns-then-has_serial
unfolding serial_row
returns-then-has_serial c =
    lowest_here (numbered c.args.serial) c.args.rows c.loop-i.i no_row c.loop-i.invariant (omega arith) (sym c.has_serial.ensures ∙ c.if-has_serial.true)

pub loop-i-preserved : goal.loop-i-preserved
loop-i-preserved c =
    lowest_on (numbered c.args.serial) c.args.rows c.loop-i.i no_row c.loop-i.invariant (omega arith) (sym c.has_serial.ensures ∙ c.if-has_serial.false)

pub returns : goal.returns
unfolding serial_row
returns c =
    lowest_none (numbered c.args.serial) c.args.rows c.loop-i.i no_row c.loop-i.invariant (omega arith)
