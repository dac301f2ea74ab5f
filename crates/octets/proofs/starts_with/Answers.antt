-- `octets::starts_with` meets its contract: the method compares the prefix with the front of the string. Assumes nothing.
use mathlib.Core.Path.{◌∙◌}
use Rattle.octets.proofs.Strings.{front_starts}
use Rattle.octets.proofs.starts_with.Goals as goal

pub returns : goal.returns
returns c = c.starts_with.ensures.value ∙ front_starts _ _
