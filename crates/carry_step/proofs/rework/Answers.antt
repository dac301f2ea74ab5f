-- `carry_step::rework` meets its contract: one place, or none, has another job; a step that is not lean is ruled out. Assumes nothing.
use Prim.Native.Nat.{ℕ}
use mathlib.Core.Bool.{true}
use mathlib.Core.Logic.{◌⊎◌, inl, inr}
use mathlib.Core.Path.{◌≡◌, ◌∙◌}
use lib.ListN.{set}
use Rattle.lists.proofs.Rows.{clash}
use Rattle.server.specs.declared.Connection.{Connection}
use Rattle.server.specs.declared.JobRow.{JobRow}
use Rattle.plan.specs.declared.Values.{Values}
use Rattle.plan.specs.declared.Step as S'
use Rattle.plan.specs.declared.Step.TheVariants as SV
use Rattle.plan.specs.Steps.{is_lean, stepped}
use Rattle.plan.proofs.Sizes.{rows_long}
use Rattle.carry_step.proofs.Reworked.{rows_kept}
use Rattle.carry_step.proofs.rework.Goals as goal

-- three steps put one row anew
one_row : (s : S'.Step) (v : Values) (p : ℕ) (r : JobRow) → (s ≡ SV.Row p r) ⊎ (((c : ℕ) × (x : Connection) × (s ≡ SV.Grab p r c x)) ⊎ (s ≡ SV.New p r))
    → (stepped s v).rows ≡ set v.rows p r
unfolding stepped
one_row s v p r (inl e) = rw e
one_row s v p r (inr (inl g)) = rw g.2
one_row s v p r (inr (inr e)) = rw e

-- five steps leave the rows, if they are lean
no_row : (s : S'.Step) (v : Values) → is_lean s ≡ true
    → (s ≡ SV.Nothing) ⊎ (((c : ℕ) × (x : Connection) × (s ≡ SV.Flags c x)) ⊎ (((q : ℕ) × (l : ℕ) × (s ≡ SV.Able q l)) ⊎ (((c : ℕ) × (s ≡ SV.Reset c)) ⊎ ((c : ℕ) × (s ≡ SV.Leave c)))))
    → (stepped s v).rows ≡ v.rows
unfolding stepped is_lean
no_row s v h (inl e) = rw e
no_row s v h (inr (inl g)) = rw g.2
no_row s v h (inr (inr (inl g))) = rw g.2
no_row s v h (inr (inr (inr (inl g)))) = clash h (rw g.1)
no_row s v h (inr (inr (inr (inr g)))) = clash h (rw g.1)

pub returns-in-Nothing : goal.returns-in-Nothing
returns-in-Nothing c = rw (no_row _ _ c.requires.4 c.in-Nothing.is) (rows_kept 32 _ _ _ c.requires.0 (rows_long _))

pub returns-in-Row : goal.returns-in-Row
returns-in-Row c = rw (one_row _ _ _ _ c.in-Row.is) c.rework_row-in-Row.ensures

pub returns-in-End : goal.returns-in-End
unfolding stepped
returns-in-End c = rw c.in-End.is (c.rework_row.ensures ∙ rw c.no_row.ensures)
