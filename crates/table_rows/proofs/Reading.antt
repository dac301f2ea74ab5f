-- Laws of the table's numbers read: an array filled place after place, the arrays that this gives, and what stands at one place.
-- Assumes nothing.
use Prim.Native.Nat.{ℕ, zero, suc, ◌+◌, ◌*◌, ◌≤◌, ◌<◌}
use mathlib.Core.Path.{◌≡◌, refl, sym, ap, subst, ◌∙◌}
use denote.Param.Members.{Mut, Called}
use Rattle.std.specs.Array.{IsFromFnResult}
use mathlib.Core.List.{List, [], ◌∷◌, ◌++◌, map}
use native.Mathlib.Nat.{zero-add, add-zero, suc-add, add-suc}
use native.Mathlib.Numerals.{add-one}
use native.Mathlib.Omega.{arith}
use lib.ListN.{length, get_or, take, set, get_or-eq_default}
use lib.Seq.{take-suc-set, take_all}
use Rattle.octets.specs.Bytes.{Bytes}
use Rattle.server.specs.declared.Connection.{Connection}
use Rattle.server.specs.declared.JobRow.{JobRow}
use Rattle.lists.specs.Lists.{numbers}
use Rattle.lists.proofs.Filling.{made_at}
use Rattle.server.specs.Sizes.{connection_count, function_count, job_count}
use Rattle.server.specs.Table.{no_row, closed, ables_of, rows_of}
use Rattle.server.specs.Layout.{little_at, connection_in, function_in, row_in, job_in, table_of, able_at}
use Rattle.plan.specs.Values.{values_of}
use Rattle.plan.specs.Parts as P
use Rattle.table_laws.proofs.Columns.{length_places, places_are, places_at}

-- ---- an array filled

module _ {A : Type 0} (f : ℕ → A) where
  map_more : (i n : ℕ) → map f (numbers i (suc n)) ≡ map f (numbers i n) ++ (f (i + n) ∷ [])
  map_more i zero = ap (λ (k : ℕ). f k ∷ []) (sym (add-zero i))
  map_more i (suc n) =
      ap (λ (l : List A). f i ∷ l) (map_more (suc i) n ∙ ap (λ (k : ℕ). map f (numbers (suc i) n) ++ (f k ∷ [])) (suc-add i n ∙ sym (add-suc i n)))

  pub fill_more : (l : List A) (i n : ℕ) (x : A) → i < n → length l ≡ n → x ≡ f i → take i l ≡ map f (numbers 0 i)
      → take (i + 1) (set l i x) ≡ map f (numbers 0 (i + 1))
  fill_more l i n x h k e t =
      rw (add-one, take-suc-set l i x (omega arith), t, e) (sym (map_more 0 i ∙ ap (λ (k : ℕ). map f (numbers 0 i) ++ (f k ∷ [])) (zero-add i)))

  pub filled : (l : List A) (i n : ℕ) → i ≤ n → n ≤ i → length l ≡ n → take i l ≡ map f (numbers 0 i) → l ≡ map f (numbers 0 n)
  filled l i n h g k t =
      let e : i ≡ n = omega arith in
      sym (take_all i l (omega arith)) ∙ t ∙ ap (λ (m : ℕ). map f (numbers 0 m)) e

-- what `from_fn` makes, where each call answers f of its place and leaves the closure as it was
module _ {C A : Type 0} (g : Mut C (ℕ × Unit {0}) A) (f : ℕ → A) (s : C) (calls : (i : ℕ) (x : A) (q : C) → Called g s (i, tt) x q → (x ≡ f i) × (q ≡ s)) where
  pub from_each : (l : List A) (n : ℕ) (d : A) → IsFromFnResult g s l n → l ≡ map f (numbers 0 n)
  from_each l n d a = sym (places_are f d n l a.long (λ k h. made_at g f s calls l n k d a h))

-- ---- the arrays

map_map : {A B C : Type 0} (g : B → C) (f : A → B) (xs : List A) → map g (map f xs) ≡ map (λ x. g (f x)) xs
map_map g f [] = refl
map_map g f (x ∷ xs) = ap (λ l. g (f x) ∷ l) (map_map g f xs)

module _ (b : Bytes) where
  -- the rows and the sets that the bytes hold, place after place
  pub rows_are : rows_of (table_of connection_count b) ≡ map (row_in connection_count b) (numbers 0 job_count)
  unfolding table_of
  rows_are = map_map (λ j. j.row) (job_in connection_count b) (numbers 0 job_count)

  pub ables_are : ables_of (table_of connection_count b) ≡ map (λ q. little_at 4 b (able_at + 4 * q)) (numbers 0 function_count)
  unfolding table_of
  ables_are = map_map (λ x. x.able) (function_in connection_count b) (numbers 0 function_count)

-- ---- one place

-- what stands at a place is what is read there, and beyond the last place the empty one
module _ {A : Type 0} (f : ℕ → A) (d : A) (n : ℕ) (l : List A) (i : ℕ) (e : l ≡ map f (numbers 0 n)) where
  pub column_at : i < n → get_or l i d ≡ f i
  column_at h = rw e (places_at f d n i h)

  column_beyond : n ≤ i → get_or l i d ≡ d
  column_beyond h = rw e (get_or-eq_default (map f (numbers 0 n)) d (rw (length_places f 0 n) h))

module _ (b : Bytes) (i : ℕ) where
  pub row_place : i < job_count → get_or (rows_of (table_of connection_count b)) i no_row ≡ row_in connection_count b i
  row_place = column_at (row_in connection_count b) no_row 32 (rows_of (table_of connection_count b)) i (rows_are b)

  pub row_inside : (x : JobRow) → i < job_count → x ≡ row_in connection_count b i → x ≡ P.row_in (values_of (table_of connection_count b)) i
  unfolding values_of
  row_inside x h g = g ∙ sym (row_place h)

  pub row_beyond : (x : JobRow) → 32 ≤ i → x ≡ no_row → x ≡ P.row_in (values_of (table_of connection_count b)) i
  unfolding values_of
  row_beyond x h g = g ∙ sym (column_beyond (row_in connection_count b) no_row 32 (rows_of (table_of connection_count b)) i (rows_are b) h)

  pub able_inside : (x : ℕ) → i < function_count → x ≡ little_at 4 b (able_at + 4 * i) → x ≡ get_or (values_of (table_of connection_count b)).able i 0
  unfolding values_of
  able_inside x h g = g ∙ sym (column_at (λ q. little_at 4 b (able_at + 4 * q)) 0 function_count (ables_of (table_of connection_count b)) i (ables_are b) h)

  pub able_beyond : (x : ℕ) → function_count ≤ i → x ≡ 0 → x ≡ get_or (values_of (table_of connection_count b)).able i 0
  unfolding values_of
  able_beyond x h g = g ∙ sym (column_beyond (λ q. little_at 4 b (able_at + 4 * q)) 0 function_count (ables_of (table_of connection_count b)) i (ables_are b) h)

  pub connection_inside : (x : Connection) → i < connection_count → x ≡ connection_in connection_count b i → x ≡ P.connection_in (values_of (table_of connection_count b)) i
  unfolding values_of table_of
  connection_inside x h g = g ∙ sym (column_at (connection_in connection_count b) closed connection_count (table_of connection_count b).connections i refl h)

  pub connection_beyond : (x : Connection) → connection_count ≤ i → x ≡ closed → x ≡ P.connection_in (values_of (table_of connection_count b)) i
  unfolding values_of table_of
  connection_beyond x h g = g ∙ sym (column_beyond (connection_in connection_count b) closed connection_count (table_of connection_count b).connections i refl h)
