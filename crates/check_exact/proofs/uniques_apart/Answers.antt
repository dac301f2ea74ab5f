-- `check_exact::uniques_apart` meets its contract, where a test decides before the texts are read, and by the texts. Assumes nothing.
use Rattle.server.specs.Sizes.{connection_count}
use Rattle.server.specs.Layout.{job_in}
use Rattle.check_exact.proofs.Texts.{uniques_compared}
use Rattle.check_exact.proofs.uniques_apart.Goals as goal

pub returns : goal.returns
returns c =
    rw c.is_empty.ensures
    (uniques_compared (job_in connection_count c.args.table.now c.args.p) (job_in connection_count c.args.table.now c.args.k) _ _ c.serial-s.ensures c.serial-t.ensures c.if-s-t.false
    _ _ _ _ c.unique.ensures c.unique-2.ensures c.unique-3.ensures c.equal.ensures)
