-- `check_numbers::serials_hold` meets its contract. Both rules; where the first fails, so do both. Assumes nothing.
use Rattle.std.proofs.Common.{sym, ◌∙◌}
use Rattle.server.specs.Sizes.{connection_count}
use Rattle.server.specs.Layout.{table_of}
use Rattle.server.specs.Rules.{serials_distinct}
use Rattle.table_passes.proofs.Tests.{and_same, and_fails}
use Rattle.check_numbers.proofs.Serials.{below_is}
use Rattle.check_numbers.proofs.serials_hold.Goals as goal

pub returns-then-serials_below : goal.returns-then-serials_below
returns-then-serials_below c =
    and_same (sym c.if-serials_below.true ∙ c.serials_below.ensures ∙ below_is c.args.table.now _ c.number4.ensures) c.serials_distinct.ensures

pub returns-else-serials_below : goal.returns-else-serials_below
returns-else-serials_below c =
    c.if-serials_below.false
    ∙ and_fails (serials_distinct (table_of connection_count c.args.table.now)) (sym c.if-serials_below.false ∙ c.serials_below.ensures ∙ below_is c.args.table.now _ c.number4.ensures)
