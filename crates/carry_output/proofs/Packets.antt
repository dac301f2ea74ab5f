-- The packets of one unfinished job, from the bytes in which it lies: an assignment with its workload, and its status. Assumes nothing.
use Prim.Native.Nat.{ℕ, ◌+◌, ◌-◌, ◌*◌, ◌≤◌, ◌<◌}
use mathlib.Core.Path.{◌≡◌, ap, sym, ◌∙◌}
use mathlib.Core.Bool.{Bool, true, not, cond}
use mathlib.Core.List.{[]}
use native.Mathlib.Omega.{arith}
use lib.ListN.{length, get_or, take, drop}
use lib.Dec.{eqb}
use Rattle.octets.specs.Bytes.{Bytes}
use Rattle.packet.specs.Layout as L
use Rattle.packet.specs.Arguments.{fits, join}
use Rattle.handle.specs.Handle.{is_hub_name}
use Rattle.server.specs.declared.JobRow.{JobRow}
use Rattle.lists.specs.Lists.{fit}
use Rattle.server.specs.Sizes.{connection_count, job_count, name_size, unique_size, number_size, workload_size, workloads_size}
use Rattle.server.specs.Table.{Function, Job, function_at, job_at, live}
use Rattle.server.specs.Requests.{sends}
use Rattle.server.specs.Layout.{table_of, text_at, names_at, uniques_at, numerators_at, denominators_at}
use Rattle.server.specs.Call.{is_sound, server_in}
use Rattle.lists.proofs.Lists.{length_fit}
use Rattle.plan.specs.declared.Order.TheVariants as OV
use Rattle.plan.specs.Values.{values_of}
use Rattle.plan.specs.Parts as P
use Rattle.plan.specs.Parts.{ordered}
use Rattle.carry_packet.specs.Messages.{message, assign_arguments, status_arguments}
use Rattle.carry_packet.proofs.Rendered.{assign_rendered, status_rendered}
use Rattle.carry_output.specs.Ordered.{bytes_sent, order_bytes}
use Rattle.carry_output.proofs.Jobs.{hub_good, row_there, job_there, function_there, function_fits, unique_fits, numerator_fits, denominator_fits, job_together, workload_there}

module _ (b : Bytes) (sound : is_sound connection_count b ≡ true) (p : ℕ) (row : JobRow) (same_row : row ≡ P.row_in (values_of (table_of connection_count b)) p)
    (inside : p < job_count) (alive : live (job_at (table_of connection_count b) p).row ≡ true) where
  abbrev held : Job
  held = job_at (table_of connection_count b) p

  -- the texts and the workload as the code takes them from the bytes
  module _ (w hub f u x : Bytes) (lent : workloads_size ≤ length w) (eh : hub ≡ (table_of connection_count b).hub) (ef : f ≡ text_at name_size b (names_at + name_size * row.function)) (eu : u ≡ text_at unique_size b (uniques_at + unique_size * p))
      (ex : x ≡ take (workload_size * p + row.size - workload_size * p) (drop (workload_size * p) w)) where
    its_name : f ≡ (function_at (table_of connection_count b) held.row.function).name
    its_name = ef ∙ sym (ap (λ (y : Function). y.name) (function_there b sound p row same_row inside alive))

    its_unique : u ≡ held.unique
    its_unique = eu ∙ sym (ap (λ (j : Job). j.unique) (job_there b sound p row same_row inside alive))

    its_workload : x ≡ fit held.row.size (get_or (server_in connection_count b w).workloads p [])
    its_workload =
        let e : workload_size * p + row.size - workload_size * p ≡ row.size = omega arith in
        ex ∙ rw e (workload_there b sound p row same_row inside alive w lent)

    pub assign_fits : (is_hub_name hub ≡ true) × (fits L.function f ≡ true) × (fits L.unique u ≡ true) × (length f + length u + length x ≤ 1022)
    assign_fits = (
      rw eh (hub_good b sound),
      rw its_name (function_fits b sound p row same_row inside alive),
      rw its_unique (unique_fits b sound p row same_row inside alive),
      rw (its_name, its_unique, its_workload, length_fit held.row.size (get_or (server_in connection_count b w).workloads p [])) (job_together b sound p row same_row inside alive),
    )

    pub assign_is : (c : ℕ) (uniq : Bool) → message c (cond uniq 31 11) (join (assign_arguments hub uniq row.serial f u x)) ≡ order_bytes (OV.Assign uniq p) c 0 [] [] b w
    unfolding order_bytes bytes_sent ordered server_in
    assign_is c uniq =
        assign_rendered (sends c []) (server_in connection_count b w) p row.serial hub f u x eh (ap (λ (r : JobRow). r.serial) (row_there b sound p row same_row inside alive)) its_name its_unique its_workload uniq c

  module _ (n d : Bytes) (en : n ≡ text_at number_size b (numerators_at + number_size * p)) (ed : d ≡ text_at number_size b (denominators_at + number_size * p)) where
    its_numerator : n ≡ held.numerator
    its_numerator = en ∙ sym (ap (λ (j : Job). j.numerator) (job_there b sound p row same_row inside alive))

    its_denominator : d ≡ held.denominator
    its_denominator = ed ∙ sym (ap (λ (j : Job). j.denominator) (job_there b sound p row same_row inside alive))

    pub status_fits : (fits L.number n ≡ true) × (fits L.number d ≡ true)
    status_fits = (rw its_numerator (numerator_fits b sound p row same_row inside alive), rw its_denominator (denominator_fits b sound p row same_row inside alive))

    pub status_is : (c : ℕ) (h : Bytes) → message c 20 (join (status_arguments h true (not (eqb row.holder 0)) n d)) ≡ order_bytes (OV.Status p) c 0 h [] b []
    unfolding order_bytes bytes_sent ordered
    status_is c h =
        rw (its_numerator, its_denominator, row_there b sound p row same_row inside alive)
        (status_rendered (sends c []) (server_in connection_count b []) c h held.numerator held.denominator true (not (eqb held.row.holder 0)))
