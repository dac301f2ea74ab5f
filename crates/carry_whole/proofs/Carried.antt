-- A change laid and the numbers settled: the bytes of the final table. Assumes nothing.
use mathlib.Core.Path.{◌≡◌, refl, ap, ◌∙◌}
use mathlib.Core.Bool.{true}
use mathlib.Core.List.{[]}
use lib.ListN.{length, length-set, length-map}
use Rattle.octets.specs.Bytes.{Bytes}
use Rattle.octets.specs.Put.{put}
use Rattle.server.specs.Sizes.{connection_count}
use Rattle.server.specs.Table.{Table, function_at, set_function, with_name}
use Rattle.server.specs.Layout.{table_of, bytes_of}
use Rattle.server.specs.Call.{is_sound}
use Rattle.lists.proofs.Rows.{length_map_from}
use Rattle.plan.specs.declared.Values.{Values}
use Rattle.plan.specs.declared.Change as C'
use Rattle.plan.specs.declared.Change.TheVariants as CV
use Rattle.plan.specs.Settling.{settled_values}
use Rattle.server.specs.Events.{woken_in}
use Rattle.plan.specs.Parts.{changed, final_table}
use Rattle.plan_settle.proofs.Turns.{length_dropped}
use Rattle.carry_places.specs.Written.{written}
use Rattle.carry_places.proofs.Laid.{Whole, whole_ids, whole_functions, whole_jobs}
use Rattle.carry_places.proofs.Final.{final_bytes}
use Rattle.carry_whole.specs.Fitting.{Sized}
use Rattle.carry_whole.proofs.Laid.{whole}

-- a change keeps the table's size
pub changed_whole : (x : C'.Change) (a u d : Bytes) (t : Table) → Whole t → Whole (changed x a u d t)
unfolding changed
changed_whole CV.Nothing a u d t w = w
changed_whole (CV.Name q) a u d t w = whole_functions t w _ (length-set t.functions q _)
changed_whole (CV.Job p q) a u d t w = whole_jobs (set_function t q (with_name a (function_at t q))) (whole_functions t w _ (length-set t.functions q _)) _ (length-set t.jobs p _)
changed_whole (CV.Texts p) a u d t w = whole_jobs t w _ (length-set t.jobs p _)
changed_whole (CV.Id c) a u d t w = whole_ids t w _ (length-set t.ids c a)
changed_whole (CV.Left c) a u d t w = whole_ids _ (whole_jobs t w _ (length-map t.jobs _)) _ (length-set t.ids c [])

module _ (v : Values) where
  settled_connections : length (settled_values v).connections ≡ length v.connections
  unfolding settled_values woken_in
  settled_connections = length_map_from _ 0 v.connections

  settled_able : length (settled_values v).able ≡ length v.able
  unfolding settled_values
  settled_able = refl

  settled_rows : length (settled_values v).rows ≡ length v.rows
  unfolding settled_values
  settled_rows = length_dropped v.rows

pub carried_bytes : (b m : Bytes) → is_sound connection_count b ≡ true → (x : C'.Change) (v : Values) (a u d : Bytes)
    → Sized v → m ≡ put 0 (bytes_of (changed x a u d (table_of connection_count b))) b
    → written (settled_values v) m ≡ put 0 (bytes_of (final_table v (changed x a u d (table_of connection_count b)))) b
carried_bytes b m sound x v a u d z e =
    ap (written (settled_values v)) e
    ∙ final_bytes v (changed x a u d (table_of connection_count b)) (changed_whole x a u d (table_of connection_count b) (whole b sound)) b (settled_values v) refl
    (settled_connections v ∙ z.connections) (settled_able v ∙ z.able) (settled_rows v ∙ z.rows)
