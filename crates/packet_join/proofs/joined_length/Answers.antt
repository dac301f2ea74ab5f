use mathlib.Core.Path.{refl}
use Rattle.packet_join.proofs.Joins.{ended, ended_on, ended_all}
use Rattle.packet_join.proofs.joined_length.Goals as goal

pub loop-argument-init : goal.loop-argument-init
unfolding ended
loop-argument-init c = refl

pub loop-argument-preserved : goal.loop-argument-preserved
loop-argument-preserved c =
    ended_on _ _ _ c.loop-argument.invariant _ _ _ c.loop-argument-test.true c.min.ensures c.min-ended.ensures

pub returns : goal.returns
returns c = ended_all _ _ _ c.loop-argument.invariant _ c.loop-argument-test.false c.saturating_sub.ensures
