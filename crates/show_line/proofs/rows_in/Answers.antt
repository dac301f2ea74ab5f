-- `show_line::rows_in` meets its contract: it says nothing of a table that is too short. Assumes nothing.
use native.Mathlib.Omega.{arith}
use Rattle.show_line.proofs.rows_in.Goals as goal

pub returns-then-table-lt-TABLE_SIZE : goal.returns-then-table-lt-TABLE_SIZE
returns-then-table-lt-TABLE_SIZE c = λ h. absurd (omega (arith, c.if-table-lt-TABLE_SIZE.true, h))
