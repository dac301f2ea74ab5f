-- `carry_places::put_functions` meets its contract. The invariant: the functions from q on are left to lay. Assumes nothing.
use Prim.Native.Nat.{◌≤◌, ◌-◌}
use mathlib.Core.Path.{◌≡◌}
use lib.ListN.{length, get_or}
use mathlib.Core.Bool.{false}
use Rattle.server.specs.Sizes.{function_count}
use Rattle.carry_places.specs.Laying.{laid_function, laid_each}
use Rattle.carry_places.proofs.put_functions.Given as goal

abbrev pub invariant-loop-q : goal.invariant-loop-q
invariant-loop-q l = laid_each (λ k. laid_function (get_or l.wanted k false) (get_or l.able k 0) k) 0 function_count l.initial.table ≡ laid_each (λ k. laid_function (get_or l.wanted k false) (get_or l.able k 0) k) l.q (function_count - l.q) l.table
