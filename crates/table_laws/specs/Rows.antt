-- One job's row laid over the bytes of a table: each of its numbers at its place, but for the set of its listeners. Assumes nothing.
use Rattle.std.specs.Prelude.{ℕ, ◌+◌, ◌*◌}
use Rattle.octets.specs.Bytes.{Bytes}
use Rattle.octets.specs.Put.{put}
use Rattle.server.specs.declared.JobRow.{JobRow}
use Rattle.server.specs.Layout.{little, flag_byte, serials_at, sizes_at, holders_at, priorities_at, backgrounds_at, functions_at}

abbrev pub row_laid : ℕ → JobRow → Bytes → Bytes
row_laid p r b =
    put (functions_at + p) (little 1 r.function)
    (put (backgrounds_at + p) (flag_byte r.background)
    (put (priorities_at + p) (little 1 r.priority)
    (put (holders_at + 2 * p) (little 2 r.holder)
    (put (sizes_at + 2 * p) (little 2 r.size)
    (put (serials_at + 4 * p) (little 4 r.serial) b)))))
