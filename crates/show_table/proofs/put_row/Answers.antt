-- `show_table::put_row` meets its contract: the row's job, or nothing for a free row. Assumes nothing.
use mathlib.Core.Path.{sym, ◌∙◌}
use Rattle.octets.proofs.Runs.{laid_as, laid_none, room_as}
use Rattle.show_table.specs.Standing.{job_text}
use Rattle.show_table.proofs.Connections.{if_not, if_so}
use Rattle.server.specs.Sizes.{connection_count}
use Rattle.show_table.proofs.put_row.Goals as goal

pub put_job-requires : goal.put_job-requires
put_job-requires c =
    (c.requires.0, room_as _ _ (if_so _ (job_text c.args.hub.now connection_count c.args.row) (sym c.is_live.ensures ∙ c.if-is_live.true)) _ _ c.requires.1)

pub returns-then-is_live : goal.returns-then-is_live
returns-then-is_live c =
    laid_as _ _ (if_so _ (job_text c.args.hub.now connection_count c.args.row) (sym c.is_live.ensures ∙ c.if-is_live.true)) _ _ _ _ c.put_job.ensures

pub returns : goal.returns
returns c =
    laid_as _ _ (if_not _ (job_text c.args.hub.now connection_count c.args.row) (sym c.is_live.ensures ∙ c.if-is_live.false)) _ _ _ _ (laid_none _ _)
