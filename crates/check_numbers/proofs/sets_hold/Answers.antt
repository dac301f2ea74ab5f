-- `check_numbers::sets_hold` meets its contract. The union of all sets has the connections that are used; the test of connections and that of functions are the rules. Assumes nothing.
use Prim.Native.Nat.{ℕ, ◌<◌}
use mathlib.Core.Path.{sym, ap, ◌∙◌}
use native.Mathlib.Omega.{arith}
use Rattle.sets.specs.Sets.{union}
use Rattle.server.specs.Sizes.{connection_count}
use Rattle.server.specs.Layout.{table_of}
use Rattle.server.specs.Rules.{functions_as_defined}
use Rattle.table_passes.proofs.Tests.{and_same, and_fails}
use Rattle.check_numbers.proofs.Connections.{connections_are}
use Rattle.check_numbers.proofs.Functions.{defined_is}
use Rattle.check_numbers.proofs.sets_hold.Goals as goal

pub returns-then-connections_hold : goal.returns-then-connections_hold
returns-then-connections_hold c =
    let fits : c.union-used.result < 4294967296 = omega arith in
    and_same
    (sym c.if-connections_hold.true ∙ c.connections_hold.ensures
    ∙ connections_are c.args.table.now c.requires.0 (λ k. omega (arith, c.type_inv.table k)) c.requires.1 c.requires.2 c.args.v c.requires.3 _ _ _ _
    c.joined-listening.ensures c.joined-able.ensures
    (c.union-used.ensures ∙ ap (λ (x : ℕ). union x c.args.v.holding) c.union.ensures)
    c.busy-busy_ones.ensures fits)
    (c.functions_defined.ensures ∙ defined_is c.args.table.now c.requires.2 c.args.v c.requires.3 c.requires.0 _ c.union-then-connections_hold.ensures)

pub returns-else-connections_hold : goal.returns-else-connections_hold
returns-else-connections_hold c =
    let fits : c.union-used.result < 4294967296 = omega arith in
    c.if-connections_hold.false ∙ and_fails (functions_as_defined (table_of connection_count c.args.table.now))
    (sym c.if-connections_hold.false ∙ c.connections_hold.ensures
    ∙ connections_are c.args.table.now c.requires.0 (λ k. omega (arith, c.type_inv.table k)) c.requires.1 c.requires.2 c.args.v c.requires.3 _ _ _ _
    c.joined-listening.ensures c.joined-able.ensures
    (c.union-used.ensures ∙ ap (λ (x : ℕ). union x c.args.v.holding) c.union.ensures)
    c.busy-busy_ones.ensures fits)
