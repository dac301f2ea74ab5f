-- Every step keeps the table's size: its connections, functions and rows. Assumes nothing.
use Prim.Native.Nat.{ℕ}
use mathlib.Core.Path.{◌≡◌, ◌∙◌}
use mathlib.Core.List.{List}
use lib.ListN.{length, length-set, length-map}
use Rattle.sets.specs.Sets.{remove}
use Rattle.server.specs.declared.Connection.{Connection}
use Rattle.server.specs.declared.JobRow.{JobRow}
use Rattle.server.specs.Table.{Job, Function, Table, closed, no_row}
use Rattle.plan.specs.declared.Values.{Values}
use Rattle.plan.specs.declared.Step.{Step}
use Rattle.plan.specs.declared.Step.TheVariants as SV
use Rattle.plan.specs.Values.{values_of, with_ables}
use Rattle.plan.specs.Parts.{with_connection, put_row, left_row}
use Rattle.plan.specs.Steps.{stepped}
use Rattle.carry_places.proofs.Laid.{Whole}
use Rattle.carry_whole.specs.Fitting.{Sized}

-- ---- numbers put anew

module _ (v : Values) (s : Sized v) where
  connection_sized : (c : ℕ) (x : Connection) → Sized (with_connection c x v)
  connection_sized c x = record { connections = length-set v.connections c x ∙ s.connections; able = s.able; rows = s.rows }

  able_sized : (l : List ℕ) → length l ≡ length v.able → Sized (with_ables l v)
  able_sized l e = record { connections = s.connections; able = e ∙ s.able; rows = s.rows }

  row_sized : (p : ℕ) (r : JobRow) → Sized (put_row p r v)
  row_sized p r = record { connections = s.connections; able = s.able; rows = length-set v.rows p r ∙ s.rows }

-- ---- every step

step_sized : (step : Step) (v : Values) → Sized v → Sized (stepped step v)
unfolding stepped
step_sized SV.Nothing v s = s
step_sized (SV.Row p r) v s = row_sized v s p r
step_sized (SV.End p) v s = row_sized v s p no_row
step_sized (SV.Grab p r c x) v s = row_sized _ (connection_sized v s c x) p r
step_sized (SV.New p r) v s = record { connections = s.connections; able = s.able; rows = length-set v.rows p r ∙ s.rows }
step_sized (SV.Flags c x) v s = connection_sized v s c x
step_sized (SV.Able q n) v s = able_sized v s _ (length-set v.able q n)
step_sized (SV.Reset c) v s = able_sized v s _ (length-map v.able (λ (x : ℕ). remove x c))
step_sized (SV.Leave c) v s =
    record {
      connections = length-set v.connections c closed ∙ s.connections;
      able = length-map v.able (λ (x : ℕ). remove x c) ∙ s.able;
      rows = length-map v.rows (left_row c) ∙ s.rows;
    }

values_sized : (t : Table) → Whole t → Sized (values_of t)
unfolding values_of
values_sized t whole =
    record {
      connections = whole.connections;
      able = length-map t.functions (λ (x : Function). x.able) ∙ whole.functions;
      rows = length-map t.jobs (λ (j : Job). j.row) ∙ whole.jobs;
    }

pub sized : (step : Step) (t : Table) → Whole t → Sized (stepped step (values_of t))
sized step t whole = step_sized step (values_of t) (values_sized t whole)
