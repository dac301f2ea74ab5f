-- The job that a submission joins, once the place of its function is known. Assumes nothing.
use Rattle.std.specs.Prelude.{ℕ, ◌+◌, ◌*◌, Bool, not, cond, ◌&&◌, [], take, drop, eqb, Option, Some, None}
use Rattle.octets.specs.Bytes.{Bytes, same}
use Rattle.lists.specs.Lists.{find}
use Rattle.server.specs.Sizes.{unique_size, connection_count}
use Rattle.server.specs.Table.{Job, Table, live}
use Rattle.server.specs.Layout.{uniques_at, row_in}
use Rattle.table_texts.specs.Places.{agree}

-- an unfinished job for the function at place q, with the unique u
unfoldable pub is_for : ℕ → Bytes → Job → Bool
is_for q u j = (live j.row && eqb j.row.function q) && same j.unique u

-- the same in the bytes: the job at place p, with the padded unique w
unfoldable pub lies_for : Bytes → ℕ → Bytes → ℕ → Bool
lies_for b q w p = (not (eqb (row_in connection_count b p).serial 0) && eqb (row_in connection_count b p).function q) && agree unique_size (take unique_size (drop (uniques_at + unique_size * p) b)) w

-- the job that a submission with the unique u joins, if its function has a place: none, if the unique is empty
unfoldable pub joined_at : Option ℕ → Bytes → Table → Option ℕ
joined_at None u t = None
joined_at (Some q) u t = cond (same u []) None (find (is_for q u) t.jobs)
