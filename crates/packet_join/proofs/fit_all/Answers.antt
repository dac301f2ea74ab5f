use mathlib.Core.Path.{ap}
use mathlib.Core.Bool.{not}
use Rattle.packet_join.proofs.Fitting.{fit_other, fit_end, fit_not, fit_on}
use Rattle.packet_join.proofs.fit_all.Goals as goal

pub returns-then-arguments-count_of : goal.returns-then-arguments-count_of
returns-then-arguments-count_of c = fit_other _ _ _ c.count_of.ensures.0 c.if-arguments-count_of.true

pub returns-then-not-fits : goal.returns-then-not-fits
returns-then-not-fits c =
    fit_not _ _ _ c.count_of.ensures.0 c.if-arguments-count_of.false _ c.loop-i.invariant c.loop-i-test.true _ _ c.rule_of.ensures _ c.fits.ensures (ap not c.if-not-fits.true)

pub loop-i-preserved : goal.loop-i-preserved
loop-i-preserved c =
    fit_on _ _ _ c.count_of.ensures.0 c.if-arguments-count_of.false _ c.loop-i.invariant c.loop-i-test.true _ _ c.rule_of.ensures _ c.fits.ensures (ap not c.if-not-fits.false)

pub returns : goal.returns
returns c = fit_end _ _ _ c.count_of.ensures.0 c.if-arguments-count_of.false _ c.loop-i.invariant c.loop-i-test.false
