-- The numbers of a table by value, and jobs found by their serials. Assumes nothing.
use Rattle.std.specs.Prelude.{ℕ, suc, ◌&&◌, List, eqb, Option}
use Rattle.lists.specs.Lists.{find}
use Rattle.server.specs.declared.Connection.{Connection}
use Rattle.server.specs.declared.JobRow.{JobRow}
use Rattle.server.specs.Table.{Table, rows_of, ables_of, live}
use Rattle.plan.specs.declared.Values as V'

unfoldable pub values_of : Table → V'.Values
values_of t = record { last = t.last; connections = t.connections; able = ables_of t; rows = rows_of t }

-- ---- parts put anew, the new part first

abbrev pub with_last : ℕ → V'.Values → V'.Values
with_last s v = record { last = s; connections = v.connections; able = v.able; rows = v.rows }

abbrev pub with_connection_rows : List Connection → V'.Values → V'.Values
with_connection_rows cs v = record { last = v.last; connections = cs; able = v.able; rows = v.rows }

abbrev pub with_ables : List ℕ → V'.Values → V'.Values
with_ables ss v = record { last = v.last; connections = v.connections; able = ss; rows = v.rows }

abbrev pub with_rows : List JobRow → V'.Values → V'.Values
with_rows rs v = record { last = v.last; connections = v.connections; able = v.able; rows = rs }

-- ---- searches among rows by serial, which the definitions make by handle

-- the unfinished job with this serial; held by connection c
unfoldable pub serial_row : ℕ → List JobRow → Option ℕ
serial_row s rs = find (λ r. live r && eqb r.serial s) rs

unfoldable pub held_row : ℕ → ℕ → List JobRow → Option ℕ
held_row c s rs = find (λ r. (live r && eqb r.holder (suc c)) && eqb r.serial s) rs
