use mathlib.Core.Path.{refl, ◌∙◌}
use native.Mathlib.Omega.{arith}
use Rattle.server.specs.Sizes.{connection_count}
use Rattle.server.specs.Layout.{table_of}
use Rattle.plan.specs.Values.{values_of}
use Rattle.plan.specs.Parts.{heard}
use Rattle.plan.proofs.Sizes.{connections_long}
use Rattle.plan_events.proofs.Hearing.{heard_turn, heard_end}
use Rattle.plan_events.proofs.heard.Goals as goal

pub loop-i-init : goal.loop-i-init
unfolding heard
loop-i-init c = (omega arith, refl)

pub loop-i-preserved : goal.loop-i-preserved
loop-i-preserved c =
    (omega arith, heard_turn (values_of (table_of connection_count c.args.table.now)).connections c.args.listeners c.loop-i.s c.loop-i.i c.loop-i.invariant.1 _ (omega (arith, connections_long c.args.table.now)) (c.kept-s.ensures ∙ rw c.connection_at-x.ensures))

pub returns : goal.returns
returns c =
    heard_end (values_of (table_of connection_count c.args.table.now)).connections c.args.listeners c.loop-i.s c.loop-i.i c.loop-i.invariant.1 (omega (arith, connections_long c.args.table.now))
