-- `octets::equal` meets its contract: `==` compares the strings byte by byte. Assumes nothing.
use mathlib.Core.Path.{◌∙◌}
use Rattle.octets.proofs.Strings.{pointwise_same}
use Rattle.octets.proofs.equal.Goals as goal

pub returns : goal.returns
returns c = c.eq.ensures ∙ pointwise_same _ _
