-- `plan_events::heard` meets its contract. The invariant: of the first i connections those without the option are out of the set.
-- Assumes nothing.
use Prim.Native.Nat.{◌≤◌, ◌-◌}
use mathlib.Core.Path.{◌≡◌}
use lib.ListN.{drop}
use Rattle.server.specs.Sizes.{connection_count}
use Rattle.server.specs.Layout.{table_of}
use Rattle.plan.specs.Values.{values_of}
use Rattle.plan.specs.Parts.{heard, heard_from}
use Rattle.plan_events.proofs.heard.Given as goal

abbrev pub invariant-loop-i : goal.invariant-loop-i
invariant-loop-i l = (l.i ≤ connection_count) × (heard (values_of (table_of connection_count l.table)).connections l.listeners ≡ heard_from l.i (drop l.i (values_of (table_of connection_count l.table)).connections) l.s)
