-- `table_rows::read_able` meets its contract: the closure answers what the bytes hold at each place, and stays as it was. Assumes nothing.
use Prim.Native.Nat.{◌+◌, ◌*◌}
use mathlib.Core.Path.{sym, ◌∙◌}
use borrow.Author.Rules.{of_calls}
use Rattle.server.specs.Sizes.{function_count}
use Rattle.server.specs.Layout.{little_at, able_at}
use Rattle.table_rows.proofs.Reading.{from_each, ables_are}
use Rattle.table_rows.proofs.read_able.Goals as goal

pub returns : goal.returns
returns c =
    from_each _ (λ q. little_at 4 c.args.table.now (able_at + 4 * q)) _ (λ i x q h. (search of_calls, search of_calls)) c.from_fn.result function_count 0 c.from_fn.ensures.items ∙ sym (ables_are c.args.table.now)
