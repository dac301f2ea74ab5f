-- `sets::only` meets its contract: below 32 the shift loses no bit. Assumes nothing.
use Rattle.sets.proofs.Laws.{only_shift}
use Rattle.sets.proofs.only.Goals as goal

pub returns : goal.returns
returns c = only_shift _ c.requires
