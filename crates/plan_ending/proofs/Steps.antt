-- Steps by what they are not: all but two are lean, and all but four end with nothing more. Assumes nothing.
use Prim.Native.Nat.{ℕ}
use mathlib.Core.Path.{◌≡◌, refl}
use mathlib.Core.Bool.{true}
use Rattle.std.specs.Prelude.{None}
use Rattle.server.specs.declared.Connection.{Connection}
use Rattle.server.specs.declared.JobRow.{JobRow}
use Rattle.plan.specs.declared.Ending.{Ending}
use Rattle.plan.specs.declared.Step.{Step}
use Rattle.plan.specs.declared.Step.TheVariants.{Nothing, Row, End, Grab, New, Flags, Able, Reset, Leave}
use Rattle.plan.specs.declared.Values.{Values}
use Rattle.plan.specs.Steps.{is_lean, ending}

pub lean_step : (step : Step) → ((c : ℕ) → step ≡ Reset c → ⊥) → ((c : ℕ) → step ≡ Leave c → ⊥) → true ≡ is_lean step
unfolding is_lean
lean_step Nothing r l = refl
lean_step (Row p w) r l = refl
lean_step (End p) r l = refl
lean_step (Grab p w c x) r l = refl
lean_step (New p w) r l = refl
lean_step (Flags c x) r l = refl
lean_step (Able q s) r l = refl
lean_step (Reset c) r l = absurd (r c refl)
lean_step (Leave c) r l = absurd (l c refl)

pub quiet_step : (step : Step) (v : Values) → ((p : ℕ) → step ≡ End p → ⊥) → ((p : ℕ) (w : JobRow) → step ≡ New p w → ⊥) → ((c : ℕ) (x : Connection) → step ≡ Flags c x → ⊥)
    → ((q s : ℕ) → step ≡ Able q s → ⊥) → ◌≡◌ {A = Ending} (record { woken = 0; forgotten = None }) (ending step v)
unfolding ending
quiet_step Nothing v e n f a = refl
quiet_step (Row p w) v e n f a = refl
quiet_step (End p) v e n f a = absurd (e p refl)
quiet_step (Grab p w c x) v e n f a = refl
quiet_step (New p w) v e n f a = absurd (n p w refl)
quiet_step (Flags c x) v e n f a = absurd (f c x refl)
quiet_step (Able q s) v e n f a = absurd (a q s refl)
quiet_step (Reset c) v e n f a = refl
quiet_step (Leave c) v e n f a = refl
