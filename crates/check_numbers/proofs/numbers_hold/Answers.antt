-- `check_numbers::numbers_hold` meets its contract. Rule after rule; where one fails, so do all. Assumes nothing.
use Rattle.std.proofs.Common.{sym, ◌∙◌, ◌&&◌, true≢false}
use Rattle.server.specs.Sizes.{connection_count}
use Rattle.server.specs.Layout.{table_of}
use Rattle.server.specs.Rules.{functions_as_defined, serials_below, serials_distinct}
use Rattle.table_passes.proofs.Tests.{and_same, and_fails}
use Rattle.check_numbers.specs.Numbers.{connection_rules, number_rules}
use Rattle.check_numbers.proofs.numbers_hold.Goals as goal
use Rattle.check_numbers.proofs.numbers_hold.Goals.{then-v, else-v}

pub returns-then-serials_hold : goal.returns-then-serials_hold
unfolding number_rules
returns-then-serials_hold c =
    elim c.if-v.branch [
      | then-v w ↦ and_same (sym w.if-v.true ∙ c.all_surveyed-v.ensures.clear) (and_same (sym c.if-serials_hold.true ∙ w.value-is ∙ w.serials_hold.ensures) c.sets_hold.ensures)
      | else-v w ↦ absurd (true≢false (sym c.if-serials_hold.true ∙ w.value-is ∙ w.if-v.false))
    ]

pub returns-else-serials_hold : goal.returns-else-serials_hold
unfolding number_rules
returns-else-serials_hold c =
    let t = table_of connection_count c.args.table.now in
    elim c.if-v.branch [
      | then-v w ↦
          c.if-serials_hold.false
          ∙ and_same (sym w.if-v.true ∙ c.all_surveyed-v.ensures.clear) (and_fails (connection_rules c.args.table.now && functions_as_defined t) (sym c.if-serials_hold.false ∙ w.value-is ∙ w.serials_hold.ensures))
      | else-v w ↦
          w.value-is ∙ w.if-v.false
          ∙ and_fails ((serials_below t && serials_distinct t) && (connection_rules c.args.table.now && functions_as_defined t)) (sym w.if-v.false ∙ c.all_surveyed-v.ensures.clear)
    ]
