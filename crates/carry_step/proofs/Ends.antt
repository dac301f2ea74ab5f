-- The place of a job that ends lies inside the table. Assumes nothing.
use Prim.Native.Nat.{ℕ, ◌<◌}
use mathlib.Core.Path.{◌≡◌}
use Rattle.plan.specs.declared.Step.{Step}
use Rattle.plan.specs.declared.Step.TheVariants.{End}
use Rattle.server.specs.Sizes.{job_count}
use Rattle.plan.specs.Steps.{Inside}

pub ended_inside : (s : Step) (p : ℕ) → s ≡ End p → Inside s → p < job_count
ended_inside s p e h = rw e at h
