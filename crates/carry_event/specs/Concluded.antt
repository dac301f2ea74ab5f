-- What carrying out a plan comes to, on the lent bytes, and what the plan must be. Assumes nothing.
use Rattle.std.specs.Prelude.{ℕ, ◌≤◌, cond, List, [], map, length, eqb}
use Rattle.octets.specs.Bytes.{Bytes}
use Rattle.octets.specs.Put.{put}
use Rattle.packet.specs.declared.Ends.{Ends}
use Rattle.packet.specs.declared.Shape.{Shape}
use Rattle.packet.specs.Layout.{request_shape, rules_of, separators_of}
use Rattle.packet.specs.Arguments.{join}
use Rattle.packet.specs.Answers.{argument_at}
use Rattle.packet.specs.Opaque.{ends_opaque}
use Rattle.lists.specs.Lists.{concat, numbers}
use Rattle.server.specs.Sizes.{connection_count, job_count, workload_size}
use Rattle.server.specs.Table.{Table, rows_of}
use Rattle.server.specs.Layout.{bytes_of, table_of}
use Rattle.server.specs.Call.{Result, place_of, left}
use Rattle.server.specs.Refusals.{is_told}
use Rattle.plan.specs.declared.Plan.{Plan}
use Rattle.plan.specs.declared.Values.{Values}
use Rattle.plan.specs.Steps.{stepped}
use Rattle.plan.specs.Values.{values_of}
use Rattle.plan.specs.Settling.{dropped_rows}
use Rattle.plan.specs.Parts.{changed, final_table}
use Rattle.carry_packet.specs.Messages.{error_arguments, message}
use Rattle.carry_workloads.specs.Reworked.{reworked_rows}
use Rattle.carry_whole.specs.Fitting.{Fitting, Sized}
use Rattle.carry_output.specs.Orderly.{Orderly}
use Rattle.carry_output.specs.Ordered.{answer_bytes}

-- which argument of a shape is opaque: 5 where none is
unfoldable pub opaque_place : Shape → ℕ
opaque_place shape = cond (ends_opaque (rules_of shape)) (separators_of shape) 5

-- the opaque argument of a request that was read; empty, where its type has none
unfoldable pub opaque_in : Bytes → ℕ → Ends → Bytes
opaque_in p kind ends = argument_at p ends (opaque_place (request_shape kind))

-- the ERROR packet of a refusal that is told; nothing else
unfoldable pub refusal_bytes : ℕ → ℕ → Bytes
refusal_bytes c number = cond (is_told number) (message c 19 (join (error_arguments number))) []

-- the plan of a request and the bytes lent with it
module _ (plan : Plan) (c kind : ℕ) (p : Bytes) (ends : Ends) (t w : Bytes) where
  -- the numbers after its step
  abbrev pub numbers_left : Values
  numbers_left = stepped plan.step (values_of (table_of connection_count t))

  -- the table that it leaves
  abbrev pub table_left : Table
  table_left = final_table numbers_left (changed plan.change (argument_at p ends 0) (argument_at p ends 1) (argument_at p ends 2) (table_of connection_count t))

  -- the packets that it sends
  abbrev pub packets_sent : Bytes
  packets_sent = answer_bytes plan.order numbers_left c kind (argument_at p ends 0) p t w

  -- the workloads that it leaves
  abbrev pub workloads_left : List Bytes
  workloads_left = reworked_rows (rows_of (table_of connection_count t)) (dropped_rows numbers_left.rows) (opaque_in p kind ends) (map (place_of w) (numbers 0 job_count))

  -- it can be carried out: its texts fit, its numbers are a table's, its packets can be sent and have room
  pub record Ready (o : Bytes) : Type 0 where
    pub fitting : Fitting plan.change (argument_at p ends 0) (argument_at p ends 1) (argument_at p ends 2)
    pub sized : Sized numbers_left
    pub orderly : Orderly plan.order (table_of connection_count t) p ends kind (argument_at p ends 0)
    pub small : length (opaque_in p kind ends) ≤ workload_size
    pub room : length packets_sent ≤ length o

  -- number, length, output, table and workloads once it is concluded
  unfoldable pub concluded : Bytes → Result
  concluded o =
      cond (eqb plan.number 0)
      (left 0 (length packets_sent) (put 0 packets_sent o) (put 0 (bytes_of table_left) t) (put 0 (concat workloads_left) w))
      (left plan.number (length (refusal_bytes c plan.number)) (put 0 (refusal_bytes c plan.number) o) t w)
