-- `check_texts::numbers_begin` meets its contract: the bytes compared are those of the table. Assumes nothing.
use mathlib.Core.Path.{ap, ◌∙◌}
use lib.ListN.{get_or}
use Rattle.table_passes.proofs.Tests.{same_below}
use Rattle.check_texts.specs.Stored.{begins_at, begins_with}
use Rattle.check_texts.proofs.numbers_begin.Goals as goal

pub returns : goal.returns
returns c =
    c.begun.ensures
    ∙ same_below (λ k. begins_with (get_or c.args.live.now k 0) (get_or c.first_bytes-first.result k 0)) (begins_at c.args.live.now c.args.table.now c.args.at) 32
    (λ k h. ap (begins_with (get_or c.args.live.now k 0)) (c.first_bytes-first.ensures k h))
