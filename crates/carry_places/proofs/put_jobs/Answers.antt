-- `carry_places::put_jobs` meets its contract: each turn lays one job, and after the last none is left. Assumes nothing.
use Rattle.server.specs.Sizes.{job_count}
use native.Mathlib.Omega.{arith}
use Rattle.carry_places.proofs.Each.{each_turn, each_end}
use Rattle.carry_places.proofs.put_jobs.Goals as goal

pub loop-p-preserved : goal.loop-p-preserved
loop-p-preserved c = each_turn _ job_count c.loop-p.p _ _ _ c.loop-p-test.true c.loop-p.invariant c.put_job.ensures

pub returns : goal.returns
returns c = each_end _ job_count c.loop-p.p _ _ (omega arith) c.loop-p.invariant
