-- `plan_jobs::accept` meets its contract: the next serial, if there is one. Assumes nothing.
use mathlib.Core.Path.{◌∙◌}
use native.Mathlib.Numerals.{add-one}
use borrow.Author.Tests.{lt-ltb, le-ltb}
use Rattle.plan.specs.Plans.{plan_new}
use Rattle.plan_jobs.proofs.accept.Goals as goal

pub returns-then-last-lt4294967295 : goal.returns-then-last-lt4294967295
unfolding plan_new
returns-then-last-lt4294967295 c = c.done.ensures ∙ rw (c.submitted-new.ensures, c.fresh_row-row.ensures, ← c.last-last.ensures, lt-ltb _ _ c.if-last-lt4294967295.true, add-one)

pub returns : goal.returns
unfolding plan_new
returns c = c.refused.ensures ∙ rw (← c.last-last.ensures, le-ltb _ _ c.if-last-lt4294967295.false)
