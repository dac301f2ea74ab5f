-- `check_survey::with_job` meets its contract: field by field, by whether the job is held. Assumes nothing.
use borrow.Author.Tests.{eq-eqb, ne_eqb}
use Rattle.check_survey.specs.Surveyed.{with_job}
use Rattle.check_survey.proofs.with_job.Goals as goal

pub returns-then-holder-eq0 : goal.returns-then-holder-eq0
unfolding with_job
returns-then-holder-eq0 c = rw (c.union-queued.ensures, c.union-residues.ensures, c.from.ensures, c.insert-named.ensures, c.insert-residue.ensures, eq-eqb _ 0 c.if-holder-eq0.true)

pub returns : goal.returns
unfolding with_job
returns c = rw (c.union-holding.ensures, c.insert.ensures, c.union-grabbed.ensures, c.union-residues.ensures, c.from.ensures, c.insert-named.ensures, c.insert-residue.ensures, ne_eqb _ 0 c.if-holder-eq0.false)
