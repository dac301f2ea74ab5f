-- Counts and sizes of document 01, each once. Everything else is made of these. Assumes nothing.
use Rattle.std.specs.Prelude.{ℕ, ◌+◌, ◌-◌, ◌*◌}

-- 01: "Connections 0 to 15; known functions 16; unfinished jobs 32"
abbrev pub connection_count : ℕ
connection_count = 16

abbrev pub function_count : ℕ
function_count = 16

abbrev pub job_count : ℕ
job_count = 32

-- places of texts: a function's name, a job's unique, each of its two stored numbers, a connection's client id (02: "1 to 64 bytes"), and the
-- hub's name, which has 15 bytes at the most
abbrev pub name_size : ℕ
name_size = 32

abbrev pub unique_size : ℕ
unique_size = 64

abbrev pub number_size : ℕ
number_size = 10

abbrev pub id_size : ℕ
id_size = 64

abbrev pub hub_size : ℕ
hub_size = 16

-- 01: "the workloads (at least 32,768 bytes, 32 places of 1,024)"
abbrev pub workload_size : ℕ
workload_size = 1024

abbrev pub workloads_size : ℕ
workloads_size = workload_size * job_count

-- 01: "the output (at least 16,592)"; for each connection above sixteen one more copy of the longest request, 1 + 12 + 1,024
abbrev pub output_size : ℕ → ℕ
output_size n = 16592 + 1037 * (n - 16)
