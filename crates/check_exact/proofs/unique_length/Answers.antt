-- `check_exact::unique_length` meets its contract: a unique is no longer than its place. Assumes nothing.
use mathlib.Core.Path.{ap}
use lib.ListN.{length}
use Rattle.check_exact.proofs.Texts.{text_within_lem}
use Rattle.check_exact.proofs.unique_length.Goals as goal

pub returns : goal.returns
returns c = (ap length c.unique.ensures, text_within_lem _ 64 _ _ c.unique.ensures)
