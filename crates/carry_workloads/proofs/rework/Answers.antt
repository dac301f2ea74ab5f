-- `carry_workloads::rework` meets its contract: each turn lays one more place, and after the last all are laid. Assumes nothing.
use mathlib.Core.Path.{sym}
use borrow.Author.Rules.{rules}
use Rattle.octets.proofs.Laying.{put_none}
use Rattle.carry_workloads.proofs.Places.{rework_more, rework_all}
use Rattle.carry_workloads.proofs.rework.Goals as goal

pub loop-i-init : goal.loop-i-init
loop-i-init c = sym (put_none 0 _)

pub loop-i-preserved : goal.loop-i-preserved
loop-i-preserved c =
    rework_more 32 c.args.workloads.now c.args.before c.args.after c.args.opaque.now c.requires.0 (search rules) (search rules) _ _ _ c.loop-i-test.true c.loop-i.invariant c.rework_place.ensures

pub returns : goal.returns
returns c = rework_all 32 c.args.workloads.now c.args.before c.args.after c.args.opaque.now c.requires.0 (search rules) (search rules) c.loop-i.workloads c.loop-i.i (search rules) c.loop-i.invariant
