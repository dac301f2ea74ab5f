-- Tests of the rows, functions, connections and client ids of a table that bytes hold, place by place. Assumes nothing.
use Prim.Native.Nat.{ℕ, zero, suc, ◌+◌, ◌*◌, ◌<◌, ◌≤◌}
use mathlib.Core.Path.{◌≡◌, refl, ap, ap₂, ◌∙◌}
use mathlib.Core.Bool.{Bool, true, false, not, cond, ◌&&◌, ◌||◌}
use mathlib.Core.List.{List, [], ◌∷◌, map}
use native.Mathlib.Nat.{add-zero}
use native.Mathlib.Numerals.{add-one}
use native.Mathlib.Omega.{arith}
use borrow.Author.Tests.{eqb-true}
use lib.ListN.{length, get_or, get_or-eq_default, get_or-map}
use lib.Dec.{eqb}
use Rattle.octets.specs.Bytes.{Bytes}
use Rattle.server.specs.declared.Connection.{Connection}
use Rattle.server.specs.declared.JobRow.{JobRow}
use Rattle.lists.specs.Lists.{any, all, pairwise, numbers}
use Rattle.lists.proofs.Maps.{any_map}
use Rattle.server.specs.Sizes.{connection_count, function_count, job_count}
use Rattle.server.specs.Table.{Function, Job, closed, no_function, connection_at, id_at, function_at, rows_of, ables_of, live, wanted}
use Rattle.server.specs.Layout.{little_at, connection_in, id_in, function_in, row_in, job_in, table_of, serials_at}
use Rattle.server.specs.Rules.{is_known, as_defined, functions_as_defined, sleeper_idle, sleepers_idle_from, sleepers_idle}
use Rattle.table_laws.proofs.Columns.{length_places, places_at}
use Rattle.lists.proofs.Rows.{below_at}

module _ {A : Type 0} {B : Type 0} (f : A → B) where
  all_read : (p : B → Bool) (l : List A) → all p (map f l) ≡ all (λ x. p (f x)) l
  all_read p [] = refl
  all_read p (x ∷ l) = ap (λ (b : Bool). p (f x) && b) (all_read p l)

  any_read : (p : B → Bool) (l : List A) → any p (map f l) ≡ any (λ x. p (f x)) l
  any_read p [] = refl
  any_read p (x ∷ l) = ap (λ (b : Bool). p (f x) || b) (any_read p l)

  pairs_read : (apart : B → B → Bool) (l : List A) → pairwise apart (map f l) ≡ pairwise (λ x y. apart (f x) (f y)) l
  pairs_read apart [] = refl
  pairs_read apart (x ∷ l) = ap₂ ◌&&◌ (all_read (apart (f x)) l) (pairs_read apart l)

-- a number of zero bytes
no_number : (b : Bytes) (at : ℕ) → ((j : ℕ) → j < 4 → get_or b (at + j) 0 ≡ 0) → little_at 4 b at ≡ 0
unfolding little_at
no_number b at z =
    let z0 : get_or b at 0 ≡ 0 = rw add-zero at (z 0 (omega arith)) in
    let z1 : get_or b (suc at) 0 ≡ 0 = rw add-one at (z 1 (omega arith)) in
    let e2 : at + 2 ≡ suc (suc at) = omega arith in
    let e3 : at + 3 ≡ suc (suc (suc at)) = omega arith in
    let z2 : get_or b (suc (suc at)) 0 ≡ 0 = rw e2 at (z 2 (omega arith)) in
    let z3 : get_or b (suc (suc (suc at))) 0 ≡ 0 = rw e3 at (z 3 (omega arith)) in
    rw (z0, z1, z2, z3)

-- eight rows from row p on, whose serials are zero bytes
pub free_rows : (b : Bytes) (p : ℕ) → all (λ i. eqb (get_or b (serials_at + 4 * p + i) 0) 0) (numbers 0 job_count) ≡ true → (k : ℕ) → k < 8 → live (row_in connection_count b (p + k)) ≡ false
free_rows b p z k h = ap (λ (x : ℕ). not (eqb x 0)) (no_number b (serials_at + 4 * (p + k)) zero_byte)
  where
    zero_byte : (j : ℕ) → j < 4 → get_or b (serials_at + 4 * (p + k) + j) 0 ≡ 0
    zero_byte j g =
        let m : serials_at + 4 * p + (4 * k + j) ≡ serials_at + 4 * (p + k) + j = omega arith in
        rw m at (eqb-true (get_or b (serials_at + 4 * p + (4 * k + j)) 0) 0 (below_at (λ i. eqb (get_or b (serials_at + 4 * p + i) 0) 0) 32 (4 * k + j) z (omega arith)))

module _ (n : ℕ) (b : Bytes) where
  -- ---- every place

  pub jobs_all : (p : Job → Bool) → all p (table_of n b).jobs ≡ all (λ k. p (job_in n b k)) (numbers 0 job_count)
  unfolding table_of
  jobs_all p = all_read (job_in n b) p (numbers 0 job_count)

  pub jobs_any : (p : Job → Bool) → any p (table_of n b).jobs ≡ any (λ k. p (job_in n b k)) (numbers 0 job_count)
  unfolding table_of
  jobs_any p = any_read (job_in n b) p (numbers 0 job_count)

  pub rows_any : (p : JobRow → Bool) → any p (rows_of (table_of n b)) ≡ any (λ k. p (row_in n b k)) (numbers 0 job_count)
  rows_any p = any_map p (λ (j : Job). j.row) (table_of n b).jobs ∙ jobs_any (λ j. p j.row)

  pub jobs_pairs : (apart : Job → Job → Bool) → pairwise apart (table_of n b).jobs ≡ pairwise (λ i k. apart (job_in n b i) (job_in n b k)) (numbers 0 job_count)
  unfolding table_of
  jobs_pairs apart = pairs_read (job_in n b) apart (numbers 0 job_count)

  pub functions_all : (p : Function → Bool) → all p (table_of n b).functions ≡ all (λ q. p (function_in n b q)) (numbers 0 function_count)
  unfolding table_of
  functions_all p = all_read (function_in n b) p (numbers 0 function_count)

  pub functions_pairs : (apart : Function → Function → Bool) → pairwise apart (table_of n b).functions ≡ pairwise (λ i k. apart (function_in n b i) (function_in n b k)) (numbers 0 function_count)
  unfolding table_of
  functions_pairs apart = pairs_read (function_in n b) apart (numbers 0 function_count)

  pub connections_all : (p : Connection → Bool) → all p (table_of n b).connections ≡ all (λ c. p (connection_in n b c)) (numbers 0 n)
  unfolding table_of
  connections_all p = all_read (connection_in n b) p (numbers 0 n)

  pub ids_all : (p : Bytes → Bool) → all p (table_of n b).ids ≡ all (λ c. p (id_in n b c)) (numbers 0 n)
  unfolding table_of
  ids_all p = all_read (id_in n b) p (numbers 0 n)

  -- ---- one place

  pub connections_length : length (table_of n b).connections ≡ n
  unfolding table_of
  connections_length = length_places (connection_in n b) 0 n

  pub functions_length : length (table_of n b).functions ≡ 16
  unfolding table_of
  functions_length = length_places (function_in n b) 0 function_count

  pub connection_at_lem : (c : ℕ) → c < n → connection_at (table_of n b) c ≡ connection_in n b c
  unfolding table_of
  connection_at_lem c h = places_at (connection_in n b) closed n c h

  pub id_at_lem : (c : ℕ) → c < n → id_at (table_of n b) c ≡ id_in n b c
  unfolding table_of
  id_at_lem c h = places_at (id_in n b) [] n c h

  pub function_at_lem : (q : ℕ) → q < function_count → function_at (table_of n b) q ≡ function_in n b q
  unfolding table_of
  function_at_lem q h = places_at (function_in n b) no_function function_count q h

  pub able_at_lem : (q : ℕ) → q < function_count → get_or (ables_of (table_of n b)) q 0 ≡ (function_in n b q).able
  able_at_lem q h = get_or-map (λ (x : Function). x.able) (table_of n b).functions q no_function ∙ ap (λ (x : Function). x.able) (function_at_lem q h)

  -- past the last function there is none
  pub no_function_lem : (q : ℕ) → 16 ≤ q → function_at (table_of n b) q ≡ no_function
  unfolding table_of
  no_function_lem q h = get_or-eq_default (map (function_in n b) (numbers 0 function_count)) no_function {n = q} (rw (length_places (function_in n b) 0 function_count) h)

  -- ---- functions as defined, and sleepers

  defined_from : (rs : List JobRow) (q m : ℕ)
      → as_defined rs q (map (function_in n b) (numbers q m)) ≡ all (λ k. cond (is_known (function_in n b k)) (wanted rs k (function_in n b k).able) (not (wanted rs k (function_in n b k).able))) (numbers q m)
  defined_from rs q zero = refl
  defined_from rs q (suc m) =
      ap (λ (x : Bool). cond (is_known (function_in n b q)) (wanted rs q (function_in n b q).able) (not (wanted rs q (function_in n b q).able)) && x) (defined_from rs (suc q) m)

  pub defined_all : functions_as_defined (table_of n b)
      ≡ all (λ q. cond (is_known (function_in n b q)) (wanted (rows_of (table_of n b)) q (function_in n b q).able) (not (wanted (rows_of (table_of n b)) q (function_in n b q).able))) (numbers 0 function_count)
  unfolding table_of
  defined_all = defined_from (rows_of (table_of n b)) 0 function_count

  sleepers_from : (c m : ℕ) → sleepers_idle_from (table_of n b) c (map (connection_in n b) (numbers c m)) ≡ all (λ x. sleeper_idle (table_of n b) x (connection_in n b x)) (numbers c m)
  sleepers_from c zero = refl
  sleepers_from c (suc m) = ap (λ (x : Bool). sleeper_idle (table_of n b) c (connection_in n b c) && x) (sleepers_from (suc c) m)

  connections_are : (table_of n b).connections ≡ map (connection_in n b) (numbers 0 n)
  unfolding table_of
  connections_are = refl

  pub sleepers_all : sleepers_idle (table_of n b) ≡ all (λ c. sleeper_idle (table_of n b) c (connection_in n b c)) (numbers 0 n)
  sleepers_all = ap (sleepers_idle_from (table_of n b) 0) connections_are ∙ sleepers_from 0 n
