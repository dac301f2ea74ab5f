use mathlib.Core.Path.{◌≡◌, refl}
use native.Mathlib.Omega.{arith}
use Rattle.check_survey.proofs.Walk.{none_surveyed}
use Rattle.check_survey.proofs.all_surveyed.Goals as goal

pub loop-p-init : goal.loop-p-init
loop-p-init c = (omega arith, refl, none_surveyed _)

pub loop-p-preserved : goal.loop-p-preserved
loop-p-preserved c = (omega arith, omega arith, c.next_group-v.ensures)

pub returns : goal.returns
returns c =
    let e : c.loop-p.p ≡ 32 = omega arith in
    rw e at c.loop-p.invariant.2
