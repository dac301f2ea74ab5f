-- `check_exact::names_apart` meets its contract: a name is known if it is not empty. Assumes nothing.
use Rattle.check_exact.proofs.Texts.{apart_texts}
use Rattle.check_exact.proofs.names_apart.Goals as goal

pub returns : goal.returns
returns c =
    rw c.is_empty.ensures (apart_texts _ _ _ _ _ _ c.name.ensures c.name-2.ensures c.name-3.ensures c.equal.ensures)
