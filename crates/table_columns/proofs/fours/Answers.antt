-- `table_columns::fours` meets its contract: the closure answers the number at each place, and stays as it was. Assumes nothing.
use Prim.Native.Nat.{◌+◌, ◌*◌}
use borrow.Author.Rules.{of_calls}
use Rattle.server.specs.Sizes.{job_count}
use Rattle.server.specs.Layout.{little_at}
use Rattle.table_rows.proofs.Reading.{from_each}
use Rattle.table_columns.proofs.fours.Goals as goal

pub returns : goal.returns
returns c =
    from_each _ (λ k. little_at 4 c.args.table.now (c.args.at + 4 * k)) _ (λ i x q h. (search of_calls, search of_calls)) c.from_fn.result job_count 0 c.from_fn.ensures.items
