-- `check_texts::sizes_hold` meets its contract: small sizes hold, others are asked exactly. Assumes nothing.
use Rattle.std.proofs.Common.{sym, ◌∙◌}
use Rattle.check_texts.proofs.Sizes.{sizes_small}
use Rattle.check_texts.proofs.sizes_hold.Goals as goal

pub returns-then-sizes_small : goal.returns-then-sizes_small
returns-then-sizes_small c = c.if-sizes_small.true ∙ sizes_small c.args.table.now (sym c.sizes_small.ensures ∙ c.if-sizes_small.true)
