-- `carry_step::put_awake` meets its contract. The invariant: the flags of the connections from c on are left to lay. Assumes nothing.
use Prim.Native.Nat.{◌-◌}
use mathlib.Core.Path.{◌≡◌}
use Rattle.server.specs.Sizes.{connection_count}
use Rattle.carry_places.specs.Laying.{laid_each}
use Rattle.carry_step.specs.Laying.{laid_if_woken}
use Rattle.carry_step.proofs.put_awake.Given as goal

abbrev pub invariant-loop-c : goal.invariant-loop-c
invariant-loop-c l = laid_each (laid_if_woken l.woken) 0 connection_count l.initial.table ≡ laid_each (laid_if_woken l.woken) l.c (connection_count - l.c) l.table
