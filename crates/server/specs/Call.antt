-- Each public call as one function of the lent bytes: number, length, output, table, workloads. 01, "The hub's part" and
-- "Refusal numbers". Assumes nothing.
use Rattle.std.specs.Prelude.{ℕ, ◌*◌, Bool, not, cond, ◌&&◌, ◌||◌, List, map, length, take, drop, replicate, ltb}
use Rattle.octets.specs.Bytes.{Bytes}
use Rattle.octets.specs.Put.{put}
use Rattle.handle.specs.Handle.{is_hub_name}
use Rattle.lists.specs.Lists.{concat, numbers}
use Rattle.server.specs.Sizes.{job_count, workload_size, workloads_size, output_size}
use Rattle.server.specs.Table.{fresh}
use Rattle.server.specs.Rules.{obeys}
use Rattle.server.specs.Requests.{Event}
use Rattle.server.specs.Server.{Server, Sent, addressed, next, answer}
use Rattle.server.specs.Layout.{table_size, table_of, bytes_of, is_image}

-- what a call answers and leaves
pub record Result : Type 0 where
  pub number : ℕ
  pub length' : ℕ
  pub output : Bytes
  pub table : Bytes
  pub workloads : Bytes

-- the same from its five parts: a call's contract says that what it leaves is what the definition says
abbrev pub left : ℕ → ℕ → Bytes → Bytes → Bytes → Result
left number length' output table workloads = record { number = number; length' = length'; output = output; table = table; workloads = workloads }

-- the server that lent bytes hold
abbrev pub place_of : Bytes → ℕ → Bytes
place_of w p = take workload_size (drop (workload_size * p) w)

unfoldable pub server_in : ℕ → Bytes → Bytes → Server
server_in n t w = record { table = table_of n t; workloads = map (place_of w) (numbers 0 job_count) }

-- 01: "1: a lent buffer is too short, or the table breaks a table rule"
unfoldable pub too_short : ℕ → Bytes → Bytes → Bytes → Bool
too_short n t w o = ltb (length t) (table_size n) || (ltb (length w) workloads_size || ltb (length o) (output_size n))

unfoldable pub is_sound : ℕ → Bytes → Bool
is_sound n t = is_image n t && obeys (table_of n t)

unfoldable pub sent_bytes : List Sent → Bytes
sent_bytes ps = concat (map addressed ps)

-- 01: "All refusals keep table and workloads. 1 to 8 write nothing and report length 0."
unfoldable pub refused_by : ℕ → Bytes → Bytes → Bytes → Result
refused_by number t w o = left number 0 o t w

-- "Beyond the reported length the output is unchanged"; "Bytes of table and workloads beyond what the layout uses are never written"
unfoldable pub performed : Event → Server → Bytes → Bytes → Bytes → Result
performed e s t w o =
    record {
      number = (answer e s).number;
      length' = length (sent_bytes (answer e s).sent);
      output = put 0 (sent_bytes (answer e s).sent) o;
      table = put 0 (bytes_of (next e s).table) t;
      workloads = put 0 (concat (next e s).workloads) w;
    }

-- an event on lent bytes: table, workloads, output
unfoldable pub call : ℕ → Event → Bytes → Bytes → Bytes → Result
call n e t w o =
    cond (too_short n t w o || not (is_sound n t))
    (refused_by 1 t w o)
    (performed e (server_in n t w) t w o)

-- making a fresh table. 01: "it fills the table, sets the workloads to zero, and is refused only by 1, for length"; 02: "made with a name of 1
-- to 15 bytes, lowercase letters and digits, otherwise refusal 1"
pub record Made : Type 0 where
  pub number : ℕ
  pub table : Bytes
  pub workloads : Bytes

abbrev pub made : ℕ → Bytes → Bytes → Made
made number table workloads = record { number = number; table = table; workloads = workloads }

unfoldable pub make : ℕ → Bytes → Bytes → Bytes → Made
make n hub t w =
    cond (ltb (length t) (table_size n) || (ltb (length w) workloads_size || not (is_hub_name hub)))
    (made 1 t w)
    (made 0 (put 0 (bytes_of (fresh n hub)) t) (put 0 (replicate workloads_size 0) w))
