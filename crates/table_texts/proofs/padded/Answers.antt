-- `table_texts::padded` meets its contract: the text laid over zeros. Assumes nothing.
use mathlib.Core.Path.{◌∙◌}
use Rattle.table_texts.proofs.Padding.{laid_over_zeros}
use Rattle.table_texts.proofs.padded.Goals as goal

pub returns : goal.returns
returns g c = c.put.ensures.1 ∙ laid_over_zeros g.row.N _ c.requires
