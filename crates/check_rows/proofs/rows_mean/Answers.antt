-- `check_rows::rows_mean` meets its contract. The three tests together are the rule; where one of the ranges fails, so does the rule. Assumes nothing.
use mathlib.Core.Path.{refl, sym, ◌∙◌}
use mathlib.Core.Bool.{true, false}
use Rattle.check_rows.proofs.Rows.{rows_mean_lem, out_of_range}
use Rattle.check_rows.proofs.rows_mean.Goals as goal

pub returns-then-holders_in_range : goal.returns-then-holders_in_range
returns-then-holders_in_range c =
    rows_mean_lem c.args.table.now c.args.live.now c.marks4-heard.result c.marks2-held.result c.marks2-sized.result c.requires.2 c.marks4-heard.ensures c.marks2-held.ensures c.marks2-sized.ensures c.requires.0 c.requires.1 true true _
    (sym c.if-bytes_in_range.true ∙ c.bytes_in_range.ensures) (sym c.if-holders_in_range.true ∙ c.holders_in_range.ensures) c.free_or_awaited.ensures

pub returns-else-holders_in_range : goal.returns-else-holders_in_range
returns-else-holders_in_range c =
    out_of_range c.args.table.now c.args.live.now c.requires.2 c.requires.0 c.requires.1 true false (sym c.if-bytes_in_range.true ∙ c.bytes_in_range.ensures)
    (sym c.if-holders_in_range.false ∙ c.holders_in_range.ensures) refl

pub returns-else-bytes_in_range : goal.returns-else-bytes_in_range
returns-else-bytes_in_range c =
    out_of_range c.args.table.now c.args.live.now c.requires.2 c.requires.0 c.requires.1 false _ (sym c.if-bytes_in_range.false ∙ c.bytes_in_range.ensures) refl refl
