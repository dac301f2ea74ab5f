-- `show_job::concerned` meets its contract: the job that the packet names, or else the one that the first sent packet names.
-- Assumes nothing.
use mathlib.Core.Path.{◌∙◌, sym}
use Rattle.show_job.proofs.Named.{concerned_own, concerned_sent}
use Rattle.show_job.proofs.concerned.Goals as goal

pub returns-in-Some : goal.returns-in-Some
returns-in-Some c = concerned_own _ _ _ _ (sym c.in-Some.is ∙ c.job_named-own.ensures)

pub returns-in-None : goal.returns-in-None
returns-in-None c = concerned_sent _ _ _ (sym c.in-None.is ∙ c.job_named-own.ensures) _ c.sent_first.ensures
