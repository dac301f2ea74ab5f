-- `capture_program::follow` meets its contract. The invariant: where the input was over from the start, nothing is read. Assumes nothing.
use mathlib.Core.Path.{◌≡◌}
use mathlib.Core.Bool.{true}
use Rattle.capture_program.proofs.follow.Given as goal

abbrev pub invariant-loop : goal.invariant-loop
invariant-loop g l = goal.F-IsAlwaysCallable g l.step × (l.fn.first.over ≡ true → l.now ≡ l.fn.first)
