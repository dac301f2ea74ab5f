-- What the end of a close and of RESET_ABILITIES lays over the bytes: every place, one after the other. Assumes nothing.
use Rattle.std.specs.Prelude.{ℕ, Bool, false, List, get_or}
use Rattle.octets.specs.Bytes.{Bytes}
use Rattle.octets.specs.Put.{put}
use Rattle.server.specs.declared.Connection.{Connection}
use Rattle.server.specs.declared.JobRow.{JobRow}
use Rattle.server.specs.Sizes.{connection_count, function_count, job_count}
use Rattle.server.specs.Table.{closed, no_row, held_by}
use Rattle.server.specs.Layout.{little, last_at}
use Rattle.plan.specs.declared.Values.{Values}
use Rattle.plan.specs.Settling.{wanted_marks}
use Rattle.carry_places.specs.Laying.{laid_job, laid_zeros, laid_function, laid_flags, laid_each}

abbrev pub laid_jobs : List JobRow → Bytes → Bytes
laid_jobs rs b = laid_each (λ p. laid_job (get_or rs p no_row) p) 0 job_count b

abbrev pub laid_functions : List Bool → List ℕ → Bytes → Bytes
laid_functions ms ss b = laid_each (λ q. laid_function (get_or ms q false) (get_or ss q 0) q) 0 function_count b

abbrev pub laid_connections : List Connection → Bytes → Bytes
laid_connections cs b = laid_each (λ c. laid_flags c (get_or cs c closed)) 0 connection_count b

-- the texts of the jobs that connection c holds
abbrev pub laid_returned : ℕ → List JobRow → Bytes → Bytes
laid_returned c rs b = laid_each (λ p. laid_zeros (held_by c (get_or rs p no_row)) p) 0 job_count b

-- u are the settled numbers
unfoldable pub written : Values → Bytes → Bytes
written u b = laid_connections u.connections (laid_functions (wanted_marks u.able u.rows) u.able (laid_jobs u.rows (put last_at (little 4 u.last) b)))
