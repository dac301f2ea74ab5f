-- `carry_several::send_all` meets its contract: each turn lays what its connection gets, and where the loop ends all of the set are
-- behind. Assumes nothing.
use mathlib.Core.Path.{ap}
use native.Mathlib.Omega.{arith}
use borrow.Author.Rules.{rules}
use Rattle.octets.proofs.Runs.{laid_as}
use Rattle.carry_several.proofs.Several.{below, start_place, start_laid, turn_room, turn_place, turn_laid, all_below}
use Rattle.carry_several.proofs.send_all.Goals as goal

pub loop-listener-init : goal.loop-listener-init
loop-listener-init c = search (rules, start_place, start_laid)

pub send_if-place-requires : goal.send_if-place-requires
send_if-place-requires c = search (rules, turn_room)

pub loop-listener-preserved : goal.loop-listener-preserved
loop-listener-preserved c = search (rules, turn_place, turn_laid)

pub returns-then-to-listener-eq0 : goal.returns-then-to-listener-eq0
returns-then-to-listener-eq0 c = laid_as _ _ (all_below c.args.to c.args.heard c.args.kind c.args.d.now c.args.failed.now c.loop-listener.listener (omega arith) c.if-to-listener-eq0.true) _ _ _ _ c.loop-listener.invariant

pub returns-after-loop-listener : goal.returns-after-loop-listener
returns-after-loop-listener c = laid_as _ _ (ap (below c.args.to c.args.heard c.args.kind c.args.d.now c.args.failed.now) (omega arith)) _ _ _ _ c.loop-listener.invariant
