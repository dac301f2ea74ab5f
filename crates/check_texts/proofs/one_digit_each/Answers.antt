use Rattle.std.proofs.Common.{rules, ◌+◌, get_or}
use Rattle.server.specs.Layout.{numerators_at, denominators_at}
use Rattle.table_passes.proofs.Tests.{none_on, each_end}
use Rattle.check_texts.specs.Stored.{first_alone}
use Rattle.check_texts.proofs.Numbers.{not_first}
use Rattle.check_texts.proofs.one_digit_each.Goals as goal

pub loop-i-preserved : goal.loop-i-preserved
loop-i-preserved c =
    none_on (first_alone c.args.first.now c.args.table.now) c.loop-i.i c.loop-i.found c.after_end-found.result c.loop-i.invariant
    (not_first (get_or c.args.first.now c.loop-i.i 0) (get_or c.args.table.now (numerators_at + c.loop-i.i) 0) (get_or c.args.table.now (denominators_at + c.loop-i.i) 0) c.after_end-found.result c.after_end-found.ensures)

pub returns : goal.returns
returns c = search (rules, each_end)
