-- `table_rows::read_rows` meets its contract: the closure answers what the bytes hold at each place, and stays as it was. Assumes nothing.
use mathlib.Core.Path.{sym, ◌∙◌}
use borrow.Author.Rules.{of_calls}
use Rattle.server.specs.Sizes.{connection_count, job_count}
use Rattle.server.specs.Table.{no_row}
use Rattle.server.specs.Layout.{row_in}
use Rattle.table_rows.proofs.Reading.{from_each, rows_are}
use Rattle.table_rows.proofs.read_rows.Goals as goal

pub returns : goal.returns
returns c =
    from_each _ (row_in connection_count c.args.table.now) _ (λ i x q h. (search of_calls, search of_calls)) c.from_fn.result job_count no_row c.from_fn.ensures.items ∙ sym (rows_are c.args.table.now)
