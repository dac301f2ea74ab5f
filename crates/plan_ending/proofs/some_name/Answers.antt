use mathlib.Core.Path.{refl}
use native.Mathlib.Omega.{arith}
use Rattle.server.specs.Table.{no_row, names}
use Rattle.plan_ending.proofs.Walks.{any_turn, any_end, left_long}
use Rattle.plan_ending.proofs.some_name.Goals as goal

pub loop-i-init : goal.loop-i-init
loop-i-init c = (omega arith, refl)

pub loop-i-preserved : goal.loop-i-preserved
loop-i-preserved c =
    (omega arith, any_turn (names c.args.q) _ 32 c.loop-i.i c.loop-i.found (left_long _ c.args.over) c.loop-i.invariant.1 no_row c.names_still-found.result (omega arith) c.names_still-found.ensures)

pub returns : goal.returns
returns c =
    any_end (names c.args.q) _ 32 c.loop-i.i c.loop-i.found (left_long _ c.args.over) c.loop-i.invariant.1 (omega arith)
