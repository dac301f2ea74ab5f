-- `show_table::put_gone_row` meets its contract: the row's job, if it is absent after the event; nothing for a free row. Assumes nothing.
use mathlib.Core.Path.{sym, ◌∙◌}
use Rattle.octets.proofs.Runs.{laid_as, laid_none, room_as}
use Rattle.show_table.specs.Standing.{absent_text, gone_one}
use Rattle.show_table.proofs.Connections.{if_not, if_so}
use Rattle.show_table.proofs.put_gone_row.Goals as goal

pub put_absent-requires : goal.put_absent-requires
unfolding gone_one
put_absent-requires c =
    (c.requires.0, room_as _ _ (if_so _ (absent_text c.args.hub.now c.args.word.now c.args.row.serial c.args.after) (sym c.is_live.ensures ∙ c.if-is_live.true)) _ _ c.requires.1)

pub returns-then-is_live : goal.returns-then-is_live
unfolding gone_one
returns-then-is_live c =
    laid_as _ _ (if_so _ (absent_text c.args.hub.now c.args.word.now c.args.row.serial c.args.after) (sym c.is_live.ensures ∙ c.if-is_live.true)) _ _ _ _ c.put_absent.ensures

pub returns : goal.returns
unfolding gone_one
returns c =
    laid_as _ _ (if_not _ (absent_text c.args.hub.now c.args.word.now c.args.row.serial c.args.after) (sym c.is_live.ensures ∙ c.if-is_live.false)) _ _ _ _ (laid_none _ _)
