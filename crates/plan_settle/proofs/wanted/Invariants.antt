-- `plan_settle::wanted` meets its contract. The invariant: the first i marks are made.
-- Assumes nothing.
use Prim.Native.Nat.{◌≤◌, ◌-◌}
use mathlib.Core.Path.{◌≡◌}
use lib.ListN.{length, take}
use Rattle.plan.specs.Busy.{marked_by}
use Rattle.plan_settle.proofs.wanted.Given as goal

abbrev pub invariant-loop-i : goal.invariant-loop-i
invariant-loop-i l = (l.i ≤ 16) × (length l.marks ≡ 16) × (take l.i l.marks ≡ take l.i (marked_by l.able l.s))
