-- `check_rows::marks2` meets its contract: the closure answers the mark at each place, and stays as it was. Assumes nothing.
use Prim.Native.Nat.{◌+◌, ◌*◌}
use mathlib.Core.Path.{sym}
use borrow.Author.Rules.{of_calls}
use Rattle.lists.proofs.Filling.{made_at}
use Rattle.server.specs.Sizes.{job_count}
use Rattle.server.specs.Layout.{little_at}
use Rattle.check_rows.specs.Rows.{mark_of}
use Rattle.check_rows.proofs.marks2.Goals as goal

pub returns : goal.returns
returns c = λ k h.
    sym (made_at _ (λ p. mark_of (little_at 2 c.args.table.now (c.args.at + 2 * p))) _ (λ i x q e. (search of_calls, search of_calls)) c.from_fn.result job_count k 0 c.from_fn.ensures.items h)
