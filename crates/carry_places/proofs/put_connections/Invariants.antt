-- `carry_places::put_connections` meets its contract. The invariant: the flags of the connections from c on are left to lay. Assumes nothing.
use Prim.Native.Nat.{◌≤◌, ◌-◌}
use mathlib.Core.Path.{◌≡◌}
use lib.ListN.{length, get_or}
use Rattle.server.specs.Sizes.{connection_count}
use Rattle.server.specs.Table.{closed}
use Rattle.carry_places.specs.Laying.{laid_flags, laid_each}
use Rattle.carry_places.proofs.put_connections.Given as goal

abbrev pub invariant-loop-c : goal.invariant-loop-c
invariant-loop-c l = laid_each (λ i. laid_flags i (get_or l.connections i closed)) 0 connection_count l.initial.table ≡ laid_each (λ i. laid_flags i (get_or l.connections i closed)) l.c (connection_count - l.c) l.table
