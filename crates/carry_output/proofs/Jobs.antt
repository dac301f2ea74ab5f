-- An unfinished job of a table that obeys the rules, as it lies in the lent bytes: its texts are those that its packets may have,
-- and its workload lies inside its place. Assumes nothing.
use Prim.Native.Nat.{ℕ, zero, suc, ◌+◌, ◌*◌, ◌≤◌, ◌<◌}
use mathlib.Core.Path.{◌≡◌, refl, ap, sym, ◌∙◌, subst}
use mathlib.Core.Bool.{true, not, ◌&&◌}
use mathlib.Core.List.{[], ◌∷◌}
use native.Mathlib.Omega.{arith}
use borrow.Author.Tests.{leb-true, le-leb}
use lib.ListN.{length, get_or, take, drop, length-take, length-drop, get_or-map}
use lib.Dec.{leb}
use Rattle.octets.specs.Bytes.{Bytes, same}
use Rattle.octets.proofs.Strings.{and_left, and_right, and_both}
use Rattle.packet.specs.declared.Rule.TheVariants.{Text}
use Rattle.packet.specs.Layout as L
use Rattle.packet.specs.Arguments.{fits}
use Rattle.handle.specs.Handle.{is_hub_name}
use Rattle.server.specs.declared.JobRow.{JobRow}
use Rattle.lists.specs.Lists.{fit}
use Rattle.server.specs.Sizes.{connection_count, job_count, name_size, unique_size, workload_size, workloads_size}
use Rattle.server.specs.Table.{Function, Job, no_function, no_job, function_at, job_at, live}
use Rattle.server.specs.Rules.{text_within, stored_number, together, row_has_meaning, is_known}
use Rattle.server.specs.Layout.{function_in, job_in, table_of, is_image}
use Rattle.server.specs.Call.{is_sound, place_of, server_in}
use Rattle.table_laws.proofs.Columns.{length_places, places_at}
use Rattle.plan.specs.Values.{values_of}
use Rattle.plan.specs.Parts as P
use Rattle.lists.proofs.Rows.{clash, implies_use, all_at}
use Rattle.server.proofs.Rows.{in_range}
use Rattle.server_laws.proofs.Sound.{Sound, job_named, row_means}
use Rattle.server_laws.proofs.Obeyed.{obeyed}

-- a name that is known is not empty
some_name : (s : Bytes) → not (same s []) ≡ true → 1 ≤ length s
unfolding same
some_name [] e = clash e refl
some_name (x ∷ s) e = omega arith

-- a text within its size, and not too short, is as the rule asks
text_fits : (least most : ℕ) (s : Bytes) → least ≤ length s → text_within most s ≡ true → fits (Text least most) s ≡ true
unfolding fits
text_fits least most s l w =
    and_both (leb least (length s) && leb (length s) most) _ (and_both (leb least (length s)) _ (le-leb _ _ l) (and_left (leb (length s) most) _ w)) (and_right (leb (length s) most) _ w)

-- the first bytes of a place that is long enough
fit_front : (k : ℕ) (s : Bytes) → k ≤ length s → fit k s ≡ take k s
fit_front zero s h = refl
fit_front (suc k) [] h = absurd (omega arith)
fit_front (suc k) (x ∷ s) h = ap (λ (l : Bytes). x ∷ l) (fit_front k s (omega arith))

take_take : (k m : ℕ) (s : Bytes) → k ≤ m → take k (take m s) ≡ take k s
take_take zero m s h = refl
take_take (suc k) zero s h = absurd (omega arith)
take_take (suc k) (suc m) [] h = refl
take_take (suc k) (suc m) (x ∷ s) h = ap (λ (l : Bytes). x ∷ l) (take_take k m s (omega arith))

-- the hub of a table that obeys the rules has a name
pub hub_good : (b : Bytes) → is_sound connection_count b ≡ true → is_hub_name (table_of connection_count b).hub ≡ true
unfolding is_sound
hub_good b sound = (obeyed (table_of connection_count b) (and_right (is_image connection_count b) _ sound)).sound.named

module _ (b : Bytes) (sound : is_sound connection_count b ≡ true) (p : ℕ) (row : JobRow) (same_row : row ≡ P.row_in (values_of (table_of connection_count b)) p)
    (inside : p < job_count) (alive : live (job_at (table_of connection_count b) p).row ≡ true) where
  abbrev held : Job
  held = job_at (table_of connection_count b) p

  kept : Sound (table_of connection_count b)
  unfolding is_sound
  kept = (obeyed (table_of connection_count b) (and_right (is_image connection_count b) _ sound)).sound

  thirty_two : length (table_of connection_count b).jobs ≡ 32
  unfolding table_of
  thirty_two = length_places (job_in connection_count b) 0 32

  sixteen : length (table_of connection_count b).functions ≡ 16
  unfolding table_of
  sixteen = length_places (function_in connection_count b) 0 16

  there : p < length (table_of connection_count b).jobs
  there = rw thirty_two inside

  pub row_there : row ≡ held.row
  unfolding values_of
  row_there = same_row ∙ get_or-map (λ (j : Job). j.row) (table_of connection_count b).jobs p no_job

  pub job_there : held ≡ job_in connection_count b p
  unfolding table_of
  job_there = places_at (job_in connection_count b) no_job 32 p inside

  -- ---- its function

  means : row_has_meaning (table_of connection_count b) held ≡ true
  means = rw alive at (all_at (row_means (table_of connection_count b)) (table_of connection_count b).jobs p no_job kept.rows there)

  pub function_inside : row.function < 16
  function_inside =
      rw row_there
      (subst (λ (n : ℕ). held.row.function < n) sixteen
      (in_range (length (table_of connection_count b).functions) (length (table_of connection_count b).connections) held.row means).function)

  abbrev its_function : Function
  its_function = function_at (table_of connection_count b) held.row.function

  pub function_there : function_at (table_of connection_count b) held.row.function ≡ function_in connection_count b row.function
  unfolding table_of
  function_there = rw row_there (places_at (function_in connection_count b) no_function 16 held.row.function (rw row_there at function_inside))

  pub function_fits : fits L.function its_function.name ≡ true
  function_fits =
      let q : held.row.function < length (table_of connection_count b).functions = rw sixteen (rw row_there at function_inside) in
      let w : text_within name_size its_function.name ≡ true = all_at (λ x. text_within name_size x.name) (table_of connection_count b).functions held.row.function no_function kept.names q in
      let k : is_known its_function ≡ true = implies_use (live held.row) _ (all_at (job_named (table_of connection_count b)) (table_of connection_count b).jobs p no_job kept.jobs_known there) alive in
      text_fits 1 32 its_function.name (some_name its_function.name k) w

  -- ---- its texts

  texts : text_within unique_size held.unique && (stored_number held.numerator && stored_number held.denominator) ≡ true
  texts = implies_use (live held.row) _ (all_at _ (table_of connection_count b).jobs p no_job kept.texts there) alive

  pub unique_fits : fits L.unique held.unique ≡ true
  unique_fits = text_fits 0 64 held.unique (omega arith) (and_left (text_within unique_size held.unique) _ texts)

  pub numerator_fits : fits L.number held.numerator ≡ true
  unfolding fits
  numerator_fits = and_left (stored_number held.numerator) _ (and_right (text_within unique_size held.unique) _ texts)

  pub denominator_fits : fits L.number held.denominator ≡ true
  unfolding fits
  denominator_fits = and_right (stored_number held.numerator) _ (and_right (text_within unique_size held.unique) _ texts)

  -- ---- its workload

  pub job_together : length its_function.name + length held.unique + held.row.size ≤ 1022
  job_together = leb-true _ 1022 (all_at (λ j. leb (together (table_of connection_count b) j) 1022) (table_of connection_count b).jobs p no_job kept.sizes there)

  pub workload_inside : workload_size * p + row.size ≤ workloads_size
  workload_inside = rw row_there (omega (arith, job_together, inside))

  pub workload_there : (w : Bytes) → workloads_size ≤ length w → take row.size (drop (workload_size * p) w) ≡ fit held.row.size (get_or (server_in connection_count b w).workloads p [])
  unfolding server_in
  workload_there w h =
      let s : ℕ = held.row.size in
      let l : s ≤ 1024 = omega (arith, job_together) in
      rw (row_there, places_at (place_of w) [] 32 p inside)
      (sym (fit_front s (place_of w p) (rw length-take (omega (arith, length-drop (workload_size * p) w))) ∙ take_take s 1024 (drop (workload_size * p) w) l))
