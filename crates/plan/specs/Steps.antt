-- A step on the numbers, and on the table: what it changes before the table is settled; and what the end of the event does beyond it.
-- Assumes nothing.
use Rattle.std.specs.Prelude.{ℕ, ◌≤◌, ◌<◌, ◌≡◌, Bool, true, false, not, cond, ◌&&◌, ◌||◌, List, map, length, get_or, set, eqb, Option, Some, None}
use Rattle.sets.specs.Sets.{has, insert, remove, is_empty, members}
use Rattle.server.specs.declared.JobRow.{JobRow}
use Rattle.lists.specs.Lists.{any, map_from}
use Rattle.server.specs.Sizes.{connection_count, function_count, job_count}
use Rattle.server.specs.Table.{Function, Table, no_row, no_job, no_function, job_at, function_at, set_connection, set_function, set_job, with_row, queued, names, grabbable, with_last_serial, with_connections, with_functions, with_able}
use Rattle.server.specs.Events.{awake, to_wake_in}
use Rattle.plan.specs.declared.Values as V'
use Rattle.plan.specs.Values.{values_of, with_last, with_ables}
use Rattle.plan.specs.Settling.{dropped_rows}
use Rattle.plan.specs.Parts.{with_connection, put_row, row_in, closed_in, final_table}
use Rattle.plan.specs.Busy.{to_wake_set}
use Rattle.plan.specs.declared.Step as S'
use Rattle.plan.specs.declared.Step.TheVariants as SV
use Rattle.plan.specs.declared.Ending.{Ending}

-- the numbers after a step
unfoldable pub stepped : S'.Step → V'.Values → V'.Values
stepped SV.Nothing v = v
stepped (SV.Row p r) v = put_row p r v
stepped (SV.End p) v = put_row p no_row v
stepped (SV.Grab p r c x) v = put_row p r (with_connection c x v)
stepped (SV.New p r) v = with_last r.serial (put_row p r v)
stepped (SV.Flags c x) v = with_connection c x v
stepped (SV.Able q s) v = with_ables (set v.able q s) v
stepped (SV.Reset c) v = with_ables (map (λ s. remove s c) v.able) v
stepped (SV.Leave c) v = closed_in c v

-- ---- a step written where it lies

-- its end is known beforehand: all but a connection's leaving and its giving up of all abilities, whose whole end is computed
unfoldable pub is_lean : S'.Step → Bool
is_lean SV.Nothing = true
is_lean (SV.Row p r) = true
is_lean (SV.End p) = true
is_lean (SV.Grab p r c x) = true
is_lean (SV.New p r) = true
is_lean (SV.Flags c x) = true
is_lean (SV.Able q s) = true
is_lean (SV.Reset c) = false
is_lean (SV.Leave c) = false

-- its places are those of the product's table
abbrev pub Inside : S'.Step → Type 0
Inside SV.Nothing = 0 ≤ 0
Inside (SV.Row p r) = p < job_count
Inside (SV.End p) = p < job_count
Inside (SV.Grab p r c x) = (p < job_count) × (c < connection_count)
Inside (SV.New p r) = p < job_count
Inside (SV.Flags c x) = c < connection_count
Inside (SV.Able q s) = q < function_count
Inside (SV.Reset c) = c < connection_count
Inside (SV.Leave c) = c < connection_count

-- what a lean step leaves of a table
unfoldable pub sparse : S'.Step → Table → Table
sparse SV.Nothing t = t
sparse (SV.Row p r) t = set_job t p (with_row r (job_at t p))
sparse (SV.End p) t = set_job t p no_job
sparse (SV.Grab p r c x) t = set_job (set_connection t c x) p (with_row r (job_at t p))
sparse (SV.New p r) t = with_last_serial r.serial (set_job t p (with_row r (job_at t p)))
sparse (SV.Flags c x) t = set_connection t c x
sparse (SV.Able q s) t = set_function t q (with_able s (function_at t q))
sparse (SV.Reset c) t = t
sparse (SV.Leave c) t = t

-- ---- the end of an event

-- a queued job names the function at place q
abbrev pub waits : ℕ → JobRow → Bool
waits q r = queued r && eqb r.function q

-- the function at place q, if nobody is able to do it and no job names it
abbrev pub unwanted : ℕ → ℕ → List JobRow → Option ℕ
unwanted q s rs = cond (not (is_empty s) || any (names q) rs) None (Some q)

-- how an event that obeys the rules ends beyond a lean step, from the numbers before it. An ended job may leave its function unwanted.
-- A new job wakes the sleepers able to do it; who goes to sleep beside a job that it can do wakes at once; new abilities wake a sleeper
-- if their function has a queued job
unfoldable pub ending : S'.Step → V'.Values → Ending
ending SV.Nothing v = record { woken = 0; forgotten = None }
ending (SV.Row p r) v = record { woken = 0; forgotten = None }
ending (SV.End p) v =
    record { woken = 0; forgotten = unwanted (row_in v p).function (get_or v.able (row_in v p).function 0) (set v.rows p no_row) }
ending (SV.Grab p r c x) v = record { woken = 0; forgotten = None }
ending (SV.New p r) v = record { woken = to_wake_set (get_or v.able r.function 0) v.connections; forgotten = None }
ending (SV.Flags c x) v = record { woken = cond (x.asleep && any (grabbable v.able c) v.rows) (insert 0 c) 0; forgotten = None }
ending (SV.Able q s) v =
    record { woken = cond (any (waits q) v.rows) (to_wake_set s v.connections) 0; forgotten = unwanted q s v.rows }
ending (SV.Reset c) v = record { woken = 0; forgotten = None }
ending (SV.Leave c) v = record { woken = 0; forgotten = None }

-- the functions without the forgotten one
abbrev pub without : Option ℕ → List Function → List Function
without None fs = fs
without (Some q) fs = set fs q no_function

-- what an ending leaves of a table
unfoldable pub ended : Ending → Table → Table
ended e t = with_connections (map_from (λ c x. cond (has e.woken c) (awake x) x) 0 t.connections) (with_functions (without e.forgotten t.functions) t)

-- a place among n, if it is one
abbrev pub Within : ℕ → Option ℕ → Type 0
Within n None = 0 ≤ 0
Within n (Some q) = q < n

-- The step and the ending are all that the event leaves. t is the table before it, and s has the texts after its change.
pub record Lean (step : S'.Step) (t s : Table) : Type 0 where
  pub leaves : final_table (stepped step (values_of t)) s ≡ ended (ending step (values_of t)) (sparse step s)
  pub wakes : to_wake_in (stepped step (values_of t)).able (dropped_rows (stepped step (values_of t)).rows) (stepped step (values_of t)).connections
      ≡ members (length t.connections) (ending step (values_of t)).woken
  pub keeps : dropped_rows (stepped step (values_of t)).rows ≡ (stepped step (values_of t)).rows
  pub within : Within (length t.functions) (ending step (values_of t)).forgotten
