-- The memory that a host keeps and lends, and calls on it. Assumes nothing.
use Rattle.std.specs.Prelude.{ℕ, ◌≤◌, ◌≡◌, true, List, length, take}
use Rattle.octets.specs.Bytes.{Bytes}
use Rattle.octets.specs.Put.{put}
use Rattle.server.specs.Sizes.{workloads_size, output_size}
use Rattle.server.specs.Table.{Table}
use Rattle.server.specs.Server.{Server}
use Rattle.server.specs.Layout.{table_size, table_of}
use Rattle.server.specs.Call.{Result, server_in, is_sound, call, make}
use Rattle.server_calls.specs.History.{Call, Memory, calls, leaves}

-- kept buffers for n connections: long enough, and the table breaks no table rule. Whatever a call leaves of such memory is such memory,
-- and so is what making a fresh table leaves of long enough buffers.
pub record Hub (n : ℕ) (m : Memory) : Type 0 where
  pub few : n ≤ 256
  pub long_table : table_size n ≤ length m.table
  pub long_workloads : workloads_size ≤ length m.workloads
  pub sound : is_sound n m.table ≡ true

-- buffers t and w that a table for n connections can be made of
pub record Room (n : ℕ) (t w : Bytes) : Type 0 where
  pub few : n ≤ 256
  pub long_table : table_size n ≤ length t
  pub long_workloads : workloads_size ≤ length w

-- the output lent is long enough
abbrev pub Long : ℕ → Call → Type 0
Long n x = output_size n ≤ length x.output

-- a call on this memory, and what it keeps
abbrev pub call_on : ℕ → Memory → Call → Result
call_on n m x = call n x.event m.table m.workloads x.output

abbrev pub kept : Result → Memory
kept r = record { table = r.table; workloads = r.workloads }

-- what calls, one after the other, leave of this memory
abbrev pub after_calls : ℕ → List Call → Memory → Memory
after_calls n xs m = leaves n xs m.table m.workloads

abbrev pub results_of : ℕ → List Call → Memory → List Result
results_of n xs m = calls n xs m.table m.workloads

-- the table and the server that this memory holds
abbrev pub table_in : ℕ → Memory → Table
table_in n m = table_of n m.table

abbrev pub server_of : ℕ → Memory → Server
server_of n m = server_in n m.table m.workloads

-- a fresh table of the hub of this name, made of the buffers t and w
abbrev pub fresh_memory : ℕ → Bytes → Bytes → Bytes → Memory
fresh_memory n name t w = record { table = (make n name t w).table; workloads = (make n name t w).workloads }

-- the same, with the last serial of an old table, its bytes 0 to 3, written into it
abbrev pub restarted : ℕ → Memory → Bytes → Bytes → Bytes → Memory
restarted n old name t w = record { table = put 0 (take 4 old.table) (make n name t w).table; workloads = (make n name t w).workloads }
