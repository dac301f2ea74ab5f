-- `plan_find_rows::held_row` meets its contract: of the rows only the one with the serial is asked for its holder. Assumes nothing.
use Prim.Native.Nat.{ℕ}
use mathlib.Core.Path.{◌≡◌, refl, ◌∙◌}
use mathlib.Core.Bool.{Bool, true, false, cond}
use Rattle.std.specs.Prelude.{Some, None}
use Rattle.std.specs.Bool.{then_some}
use Rattle.plan_find_rows.proofs.Rows.{held_nowhere, held_at}
use Rattle.plan_find_rows.proofs.held_row.Goals as goal

some_if : (b : Bool) (p : ℕ) → then_some b p ≡ cond b (Some p) None
some_if true p = refl
some_if false p = refl

pub returns-in_err-p : goal.returns-in_err-p
returns-in_err-p c =
    c.from_residual.ensures ∙ held_nowhere c.args.table.now c.requires.0 c.args.c c.args.serial _ c.serial_row.ensures c.in_err-p.was

pub returns : goal.returns
returns c =
    held_at c.args.table.now c.requires.0 c.args.c c.args.serial _ c.serial_row.ensures _ _ _
    c.in_ok-p.was c.row_at-row.ensures (c.then_some.ensures ∙ some_if _ _)
