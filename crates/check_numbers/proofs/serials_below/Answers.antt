use Rattle.table_passes.proofs.Tests.{each_on, each_end}
use Rattle.check_numbers.specs.Numbers.{serial_below}
use borrow.Author.Rules.{rules}
use Rattle.check_numbers.proofs.serials_below.Goals as goal

pub loop-i-preserved : goal.loop-i-preserved
loop-i-preserved c =
    each_on (serial_below c.args.table.now c.args.last) 32 c.loop-i.i c.loop-i.ok _ c.loop-i.invariant (rw c.serial.ensures)

pub returns : goal.returns
returns c = search (rules, each_end)
