-- The end of every event that is done, on the numbers alone: lost jobs are dropped, sleepers with a grabbable job are woken, and
-- functions that nobody wants are forgotten. Assumes nothing.
use Rattle.std.specs.Prelude.{ℕ, Bool, cond, List, map, get_or}
use Rattle.lists.specs.Lists.{numbers}
use Rattle.server.specs.declared.JobRow.{JobRow}
use Rattle.server.specs.Sizes.{function_count}
use Rattle.server.specs.Table.{no_row, wanted}
use Rattle.server.specs.Events.{lost, woken_in}
use Rattle.plan.specs.declared.Values as V'
use Rattle.plan.specs.Values.{with_connection_rows, with_rows}

unfoldable pub dropped_rows : List JobRow → List JobRow
dropped_rows rs = map (λ r. cond (lost r) no_row r) rs

-- the function at place q is wanted
abbrev pub wanted_in : List ℕ → List JobRow → ℕ → Bool
wanted_in ables rs q = wanted rs q (get_or ables q 0)

-- which of the functions are wanted
unfoldable pub wanted_marks : List ℕ → List JobRow → List Bool
wanted_marks ables rs = map (wanted_in ables rs) (numbers 0 function_count)

-- the numbers of a settled table: a function that nobody wants has nobody able to do it
unfoldable pub settled_values : V'.Values → V'.Values
settled_values v =
    with_connection_rows (woken_in v.able (dropped_rows v.rows) v.connections) (with_rows (dropped_rows v.rows) v)
