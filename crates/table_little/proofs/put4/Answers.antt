-- `table_little::put4` meets its contract: the bytes laid are the layout's. Assumes nothing.
use mathlib.Core.Path.{ap, ◌∙◌}
use Rattle.octets.specs.Bytes.{Bytes}
use Rattle.octets.specs.Put.{put}
use Rattle.table_little.proofs.Numbers.{laid_four}
use Rattle.table_little.proofs.put4.Goals as goal

pub returns : goal.returns
returns c = c.put.ensures.1 ∙ ap (λ (s : Bytes). put c.args.at s c.args.b.now) (c.to_le_bytes-four.ensures ∙ laid_four c.args.x)
