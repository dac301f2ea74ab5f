-- `show_table::put_absent` meets its contract: nothing where the search answers a place, and the line where it answers none.
-- Assumes nothing.
use mathlib.Core.Path.{sym, ◌∙◌}
use Rattle.octets.proofs.Runs.{laid_as, laid_none, room_as}
use Rattle.show_table.proofs.Jobs.{absent, not_absent}
use Rattle.show_table.proofs.put_absent.Goals as goal

pub put_handle_line-requires : goal.put_handle_line-requires
put_handle_line-requires c =
    (c.requires.0, room_as _ _ (absent c.args.hub.now c.args.word.now c.args.serial c.args.rows (sym c.in-None.is ∙ c.serial_row-place.ensures)) _ _ c.requires.1)

pub returns-in-Some : goal.returns-in-Some
returns-in-Some c =
    laid_as _ _ (not_absent c.args.hub.now c.args.word.now c.args.serial c.args.rows _ (sym c.in-Some.is ∙ c.serial_row-place.ensures)) _ _ _ _ (laid_none _ _)

pub returns-in-None : goal.returns-in-None
returns-in-None c =
    laid_as _ _ (absent c.args.hub.now c.args.word.now c.args.serial c.args.rows (sym c.in-None.is ∙ c.serial_row-place.ensures)) _ _ _ _ c.put_handle_line.ensures
