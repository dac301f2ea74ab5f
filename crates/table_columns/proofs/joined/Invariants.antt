-- `table_columns::joined` meets its contract. The invariant: the set is the union of the sets passed. Assumes nothing.
use Prim.Native.Nat.{◌+◌, ◌*◌}
use Rattle.server.specs.Layout.{little_at}
use Rattle.table_passes.specs.Unions.{Joined}
use Rattle.table_columns.proofs.joined.Given as goal

abbrev pub invariant-loop-i : goal.invariant-loop-i
invariant-loop-i l = Joined (λ k. little_at 4 l.table (l.at + 4 * k)) l.i l.s
