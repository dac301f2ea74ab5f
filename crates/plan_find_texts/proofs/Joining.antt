-- The job that a submission joins: none for an empty unique or an unknown function; else functions are compared by place, since the
-- names of known functions are distinct. Assumes nothing.
use Prim.Native.Nat.{ℕ, ◌+◌, ◌*◌, ◌<◌, ◌≤◌}
use mathlib.Core.Path.{◌≡◌, refl, sym, ap, ◌∙◌}
use mathlib.Core.Bool.{Bool, true, false, not, ◌&&◌, ◌||◌}
use Rattle.std.specs.Prelude.{Option, Some, None}
use mathlib.Core.List.{[], ◌∷◌}
use native.Mathlib.Omega.{arith}
use borrow.Author.Tests.{eqb-true, eq-eqb, not-true}
use lib.ListN.{length, take, drop}
use lib.Dec.{eqb}
use Rattle.octets.specs.Bytes.{Bytes, same, zero_free}
use Rattle.octets.proofs.Strings.{and_false, same_is, same_lengths, same_refl}
use Rattle.lists.specs.Lists.{find, fit, numbers}
use Rattle.server.specs.Sizes.{connection_count, job_count, unique_size}
use Rattle.server.specs.Table.{Table, no_function, no_job, function_at, job_at, live, known, joins, joined}
use Rattle.server.specs.Rules.{row_has_meaning, names_apart}
use Rattle.server.specs.Layout.{table_of, row_in, job_in, uniques_at}
use Rattle.server.specs.Call.{is_sound}
use Rattle.table_texts.specs.Places.{agree}
use Rattle.lists.proofs.Searches.{found}
use Rattle.lists.proofs.Rows.{and_swap, clash, iff, all_at, pairwise_at}
use Rattle.server.proofs.Rows.{in_range}
use Rattle.server_laws.proofs.Sound.{Sound, row_means}
use Rattle.plan_find_texts.specs.Uniques.{is_for, joined_at, lies_for}
use Rattle.lists.proofs.Alike.{find_numbers, find_same, find_nothing, skipped, not_skipped}
use Rattle.plan_find_texts.proofs.Names.{within_by, place_agrees, unique_place, unique_within, sound_table}

-- ---- jobs as they lie in the bytes

-- a row that the code skips, and one whose unique it compares
module _ (b : Bytes) (q : ℕ) (w : Bytes) (p serial of : ℕ) (es : serial ≡ (row_in connection_count b p).serial) (eo : of ≡ (row_in connection_count b p).function) where
  pub other_job : eqb serial 0 || not (eqb of q) ≡ true → false ≡ lies_for b q w p
  unfolding lies_for
  other_job h = let k = skipped (eqb serial 0) (eqb of q) h in rw (← es, ← eo, k)

  pub same_job : (x : Bool) → eqb serial 0 || not (eqb of q) ≡ false → x ≡ agree 64 (take 64 (drop (uniques_at + unique_size * p) b)) w → x ≡ lies_for b q w p
  unfolding lies_for
  same_job x h g = let k = not_skipped (eqb serial 0) (eqb of q) h in g ∙ rw (← es, ← eo, k)

same_if : (l a x y : Bool) → (l ≡ true → x ≡ y) → (l && a) && x ≡ (l && a) && y
same_if true a x y h = ap (λ (z : Bool). a && z) (h refl)
same_if false a x y h = refl

-- the search in the bytes is the search among the jobs
pub unique_found : (b : Bytes) (sound : is_sound connection_count b ≡ true) (q : ℕ) (u w : Bytes) (r : Option ℕ) → length u ≤ 64 → zero_free u ≡ true → w ≡ fit unique_size u
    → r ≡ find (lies_for b q w) (numbers 0 job_count) → r ≡ find (is_for q u) (table_of connection_count b).jobs
unfolding table_of lies_for is_for
unique_found b sound q u w r h z e g =
    let k : find (lies_for b q w) (numbers 0 job_count) ≡ find (is_for q u) (table_of connection_count b).jobs = rw e (find_numbers (lies_for b q (fit unique_size u)) (is_for q u) (job_in connection_count b) 32
    (λ p i. same_if (live (job_in connection_count b p).row) (eqb (job_in connection_count b p).row.function q) _ _
    (λ v. place_agrees 64 _ (job_in connection_count b p).unique u (unique_place b sound p i) (unique_within b sound p i v) (within_by 64 u h z)))) in
    g ∙ k

-- ---- tests in two orders

alike : (l a b c d : Bool) → (l ≡ true → a ≡ d) → c ≡ true → (l && a) && b ≡ l && (c && (b && d))
alike true a b c d h e = rw (h refl, e) (and_swap d b)
alike false a b c d h e = refl

never_joins : (l a b d : Bool) → (l ≡ true → d ≡ false) → l && (a && (b && d)) ≡ false
never_joins true a b d h = rw (h refl, and_false b, and_false a)
never_joins false a b d h = refl

-- ---- one place for each name

not_empty : (s : Bytes) → 1 ≤ length s → same s [] ≡ false
not_empty s h = same_lengths s [] (λ e. omega arith)

module _ (t : Table) (ok : Sound t) where
  names_clash : (f : Bytes) (p q : ℕ) → 1 ≤ length f → p < q → q < length t.functions → same (function_at t p).name f ≡ true → same (function_at t q).name f ≡ true → ⊥
  names_clash f p q h l m a b =
      let e : (function_at t p).name ≡ f = same_is _ _ a in
      let g : (function_at t q).name ≡ f = same_is _ _ b in
      let x : names_apart (function_at t p) (function_at t q) ≡ true = pairwise_at names_apart t.functions p q no_function ok.functions l m in
      clash x (rw (e, g, not_empty f h, same_refl f))

  one_place : (f : Bytes) (p q : ℕ) → 1 ≤ length f → p < length t.functions → q < length t.functions
      → same (function_at t p).name f ≡ true → same (function_at t q).name f ≡ true → p ≡ q
  one_place f p q h l m a b =
      let x : p < q → ⊥ = λ k. names_clash f p q h k m a b in
      let y : q < p → ⊥ = λ k. names_clash f q p h k l b a in
      omega arith

  function_place : (i : ℕ) → i < length t.jobs → live (job_at t i).row ≡ true → (job_at t i).row.function < length t.functions
  function_place i l v =
      let m : row_has_meaning t (job_at t i) ≡ true = rw v at (all_at (row_means t) t.jobs i no_job ok.rows l) in
      (in_range (length t.functions) (length t.connections) (job_at t i).row m).function

  joined_unknown : (f u : Bytes) → known t.functions f ≡ None → joined t f u ≡ None
  unfolding joined
  joined_unknown f u e =
      find_nothing (joins t.functions f u) no_job t.jobs
      (λ i l. never_joins (live (job_at t i).row) (not (same u [])) (same (job_at t i).unique u) _
      (λ v. not-true _ (all_at (λ x. not (same x.name f)) t.functions (job_at t i).row.function no_function
      (found (λ x. same x.name f) no_function t.functions None e) (function_place i l v))))

  joined_known : (f u : Bytes) (q : ℕ) → 1 ≤ length f → (length u ≡ 0 → ⊥) → known t.functions f ≡ Some q → find (is_for q u) t.jobs ≡ joined t f u
  unfolding joined is_for
  joined_known f u q h n e =
      let hit = found (λ x. same x.name f) no_function t.functions (Some q) e in
      find_same (is_for q u) no_job (joins t.functions f u) t.jobs
      (λ i l. alike (live (job_at t i).row) (eqb (job_at t i).row.function q) (same (job_at t i).unique u) (not (same u [])) (same (function_at t (job_at t i).row.function).name f)
      (λ v. iff (eqb (job_at t i).row.function q) (same (function_at t (job_at t i).row.function).name f)
      (λ z. let g : (job_at t i).row.function ≡ q = eqb-true _ _ z in rw g hit.passes)
      (λ z. eq-eqb _ _ (one_place f (job_at t i).row.function q h (function_place i l v) hit.inside z hit.passes)))
      (rw (same_lengths u [] n)))

-- ---- the outcomes

joined_empty : (t : Table) (f : Bytes) → joined t f [] ≡ None
unfolding joined
joined_empty t f = find_nothing (joins t.functions f []) no_job t.jobs (λ i l. rw (same_refl []) (and_false (live (job_at t i).row)))

-- from the place of the function, whether the unique is empty or not
joined_is : (t : Table) → Sound t → (f u : Bytes) → 1 ≤ length f → joined_at (known t.functions f) u t ≡ joined t f u
unfolding joined_at
joined_is t ok f u h = go (known t.functions f) refl u
  where
    go : (o : Option ℕ) → known t.functions f ≡ o → (u : Bytes) → joined_at o u t ≡ joined t f u
    go None e u = sym (joined_unknown t ok f u e)
    go (Some q) e [] = rw (same_refl []) (sym (joined_empty t f))
    go (Some q) e (x ∷ u) = rw (same_lengths (x ∷ u) [] (λ z. omega arith)) (joined_known t ok f (x ∷ u) q h (λ z. omega arith) e)

-- what the code answers of the two cases
pub no_unique : (t : Table) (o : Option ℕ) (u : Bytes) → length u ≡ 0 → None ≡ joined_at o u t
unfolding joined_at
no_unique t None u e = refl
no_unique t (Some q) [] e = rw (same_refl [])
no_unique t (Some q) (x ∷ u) e = absurd (omega arith)

pub some_unique_lem : (t : Table) (u : Bytes) (q : ℕ) (r : Option ℕ) → (length u ≡ 0 → ⊥) → r ≡ find (is_for q u) t.jobs → r ≡ joined_at (Some q) u t
unfolding joined_at
some_unique_lem t u q r n g = g ∙ rw (same_lengths u [] n)

pub joined_found : (b : Bytes) → is_sound connection_count b ≡ true → (f u : Bytes) (p r : Option ℕ) → 1 ≤ length f → p ≡ known (table_of connection_count b).functions f
    → r ≡ joined_at p u (table_of connection_count b) → r ≡ joined (table_of connection_count b) f u
joined_found b sound f u p r h e g =
    g ∙ rw e (joined_is (table_of connection_count b) (sound_table b sound) f u h)
