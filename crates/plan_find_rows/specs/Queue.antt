-- The walk for the job that a connection is given: how queued jobs go before each other, and what is known of the rows passed.
-- Assumes nothing.
use Rattle.std.specs.Prelude.{ℕ, ◌+◌, ◌-◌, ◌*◌, ◌≡◌, Bool, ◌&&◌, ◌||◌, map, take, eqb, leb, ltb}
use Rattle.octets.specs.Bytes.{Bytes}
use Rattle.server.specs.declared.JobRow.{JobRow}
use Rattle.server.specs.Sizes.{connection_count}
use Rattle.server.specs.Table.{greatest, ables_of, rows_of, rank, best_row}
use Rattle.server.specs.Layout.{table_of}
use Rattle.plan_find_rows.specs.declared.queue.Best as Q'

-- the rank of a queued job for a connection that can do it. 01: "the highest priority, then the lowest serial"
abbrev pub rank_of : JobRow → ℕ
rank_of r = r.priority * 4294967296 + (4294967296 - r.serial)

-- the row does not go before a job of this priority and serial
abbrev pub stays_behind : ℕ → ℕ → JobRow → Bool
stays_behind priority serial r = ltb r.priority priority || (eqb r.priority priority && leb serial r.serial)

-- v is the best of the first i rows for connection c
abbrev pub BestOf : Bytes → ℕ → ℕ → Q'.Best → Type 0
BestOf b c i v =
    (v.rank ≡ greatest (map (rank (ables_of (table_of connection_count b)) c) (take i (rows_of (table_of connection_count b)))))
    × (v.place ≡ best_row (ables_of (table_of connection_count b)) (take i (rows_of (table_of connection_count b))) c)
