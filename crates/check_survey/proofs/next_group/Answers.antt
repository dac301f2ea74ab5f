-- `check_survey::next_group` meets its contract: where all serials are zero the rows are free. Assumes nothing.
use mathlib.Core.Path.{sym, ◌∙◌}
use Rattle.check_survey.proofs.Walk.{rows_free}
use Rattle.check_survey.proofs.next_group.Goals as goal

pub returns-then-zeros : goal.returns-then-zeros
returns-then-zeros c =
    rows_free c.args.table.now c.args.v c.with_free.result c.args.p c.all_empty.result c.requires.2 (sym c.zeros.ensures ∙ c.if-zeros.true) c.all_empty.ensures c.with_free.ensures
