-- `carry_output::send_progress` meets its contract: the texts that the bytes hold are those of the job that the table has at the place.
-- Assumes nothing.
use Rattle.carry_output.proofs.Packets.{status_fits, status_is}
use Rattle.carry_output.proofs.Orders.{room_as, laid_as}
use Rattle.carry_output.proofs.send_progress.Goals as goal

pub send_status-requires : goal.send_status-requires
send_status-requires c =
    let f = status_fits _ c.requires.0 _ _ c.row_at-row.ensures c.requires.2 c.requires.3 _ _ c.text-numerator.ensures c.text-denominator.ensures in
    let e = status_is _ c.requires.0 _ _ c.row_at-row.ensures c.requires.2 c.requires.3 _ _ c.text-numerator.ensures c.text-denominator.ensures c.args.c _ in
    (c.requires.4, f.0, f.1, room_as _ _ _ e c.requires.5)

pub returns : goal.returns
returns c =
    laid_as _ _ _ _ _
    (status_is _ c.requires.0 _ _ c.row_at-row.ensures c.requires.2 c.requires.3 _ _ c.text-numerator.ensures c.text-denominator.ensures c.args.c _)
    c.send_status.ensures
