-- `plan_leave::stepped` meets its contract: a connection gives up its abilities, or leaves; a lean step is ruled out. Assumes nothing.
use Prim.Native.Nat.{ℕ}
use mathlib.Core.Path.{◌≡◌, refl}
use mathlib.Core.Bool.{false}
use Rattle.lists.proofs.Rows.{clash}
use Rattle.plan.specs.declared.Step as S'
use Rattle.plan.specs.declared.Step.TheVariants as SV
use Rattle.plan.specs.declared.Values.{Values}
use Rattle.plan.specs.Steps.{is_lean, stepped}
use Rattle.plan_leave.proofs.stepped.Goals as goal

pub reset-requires : goal.reset-requires
reset-requires c = rw c.in-Reset.is at c.requires.0

pub left-requires : goal.left-requires
left-requires c = rw c.in-Leave.is at c.requires.0

pub returns-in-Reset : goal.returns-in-Reset
unfolding stepped
returns-in-Reset c = rw c.in-Reset.is c.reset.ensures

pub returns-in-Leave : goal.returns-in-Leave
unfolding stepped
returns-in-Leave c = rw c.in-Leave.is c.left.ensures

-- what is no giving up and no leaving is lean
neither : (step : S'.Step) (v : Values) → is_lean step ≡ false → ((c : ℕ) → step ≡ SV.Reset c → ⊥) → ((c : ℕ) → step ≡ SV.Leave c → ⊥) → v ≡ stepped step v
unfolding is_lean stepped
neither SV.Nothing v e r l = clash refl e
neither (SV.Row p w) v e r l = clash refl e
neither (SV.End p) v e r l = clash refl e
neither (SV.Grab p w c x) v e r l = clash refl e
neither (SV.New p w) v e r l = clash refl e
neither (SV.Flags c x) v e r l = clash refl e
neither (SV.Able q s) v e r l = clash refl e
neither (SV.Reset c) v e r l = absurd (r c refl)
neither (SV.Leave c) v e r l = absurd (l c refl)

pub returns-in_default : goal.returns-in_default
returns-in_default c = neither c.args.step c.args.v c.requires.1 c.in_default.not-Reset c.in_default.not-Leave
