-- A survey of the rows before a place, with the next rows: free ones add nothing, and a job adds its function, its holder and the residue
-- of its serial. Assumes nothing.
use Prim.Native.Nat.{ℕ, ◌+◌, ◌-◌, ◌*◌, ◌%◌, ◌<◌, ◌≤◌}
use mathlib.Core.Path.{◌≡◌, refl, sym, ap, ap₂, ◌∙◌}
use mathlib.Core.Bool.{Bool, true, false, not, cond, ◌&&◌, ◌||◌, true≢false}
use native.Mathlib.Nat.{add-zero}
use native.Mathlib.Omega.{arith}
use borrow.Author.Tests.{ltb-true, ltb-false, eq-eqb, ne_eqb}
use lib.ListN.{get_or}
use lib.Dec.{eqb, ltb}
use Rattle.octets.specs.Bytes.{Bytes}
use Rattle.sets.specs.Sets.{has, insert, union}
use Rattle.sets.proofs.Laws.{zero_has, insert_below}
use Rattle.lists.specs.Lists.{any, all, numbers}
use Rattle.server.specs.Sizes.{job_count, unique_size, connection_count}
use Rattle.server.specs.Table.{live}
use Rattle.server.specs.Layout.{row_in, serials_at, uniques_at}
use Rattle.table_passes.proofs.Tests.{and_true, and_same, any_next, all_next, some_by, same_below, all_later, none_later}
use Rattle.table_passes.proofs.Rows.{free_rows}
use Rattle.table_passes.proofs.Unions.{has_more, sum_fresh, union_least}
use Rattle.check_image.specs.Padded.{zero_at, empty_at}
use Rattle.check_survey.specs.declared.Survey as S
use Rattle.check_survey.specs.Surveyed.{with_job, with_free, has_residue, queued_for, grabbed_for, held_by, free_or_job, Surveyed}

-- ---- before the first row

pub none_surveyed : (b : Bytes) → Surveyed b 0 (record { residues = 0; sum = 0; queued = 0; grabbed = 0; holding = 0; clear = true })
none_surveyed b =
    record {
      residues = zero_has;
      least = omega arith;
      fits = omega arith;
      distinct = λ e x y h g. absurd (omega arith);
      queued = zero_has;
      grabbed = zero_has;
      holding = zero_has;
      clear = refl;
    }

-- ---- free rows

module _ (b : Bytes) (i n : ℕ) (v : S.Survey) (before : Surveyed b i v) (free : (k : ℕ) → k < n → live (row_in connection_count b (i + k)) ≡ false) where
  -- a job with the serial of a free row would be free itself
  no_job_lem : (x y : ℕ) → y < i + n → i ≤ y → live (row_in connection_count b x) ≡ true → (row_in connection_count b x).serial ≡ (row_in connection_count b y).serial → ⊥
  no_job_lem x y h g l e =
      let m : i + (y - i) ≡ y = omega arith in
      true≢false (sym l ∙ ap (λ (s : ℕ). not (eqb s 0)) e ∙ ap (λ (k : ℕ). live (row_in connection_count b k)) (sym m) ∙ free (y - i) (omega arith))

  earlier : v.residues ≡ v.sum → (x y : ℕ) → x < y → y < i + n → live (row_in connection_count b x) ≡ true → (row_in connection_count b x).serial ≡ (row_in connection_count b y).serial → ⊥
  earlier q x y h g l e = go (ltb y i) refl
    where
      go : (t : Bool) → ltb y i ≡ t → ⊥
      go true r = before.distinct q x y h (ltb-true y i r) l e
      go false r = no_job_lem x y g (ltb-false y i r) l e

  pub free_surveyed : (c : Bool) → c ≡ all (λ k. eqb (get_or b (uniques_at + unique_size * (i + k)) 0) 0) (numbers 0 n) → Surveyed b (i + n) (with_free v c)
  free_surveyed c e =
      record {
        residues = λ r. before.residues r ∙ sym (none_later (has_residue b r) i n (λ k h. ap (λ (t : Bool). t && eqb ((row_in connection_count b (i + k)).serial % 32) r) (free k h)));
        least = before.least;
        fits = omega (arith, before.fits);
        distinct = earlier;
        queued = λ q. before.queued q ∙ sym (none_later (queued_for b q) i n (λ k h. ap (λ (t : Bool). (t && eqb (row_in connection_count b (i + k)).holder 0) && eqb ((row_in connection_count b (i + k)).function % 32) q) (free k h)));
        grabbed = λ q. before.grabbed q ∙ sym (none_later (grabbed_for b q) i n (λ k h. ap (λ (t : Bool). (t && not (eqb (row_in connection_count b (i + k)).holder 0)) && eqb ((row_in connection_count b (i + k)).function % 32) q) (free k h)));
        holding = λ x. before.holding x ∙ sym (none_later (held_by b x) i n (λ k h. ap (λ (t : Bool). (t && not (eqb (row_in connection_count b (i + k)).holder 0)) && eqb (((row_in connection_count b (i + k)).holder - 1) % 32) x) (free k h)));
        clear =
            and_same before.clear (e ∙ same_below (λ k. eqb (get_or b (uniques_at + unique_size * (i + k)) 0) 0) (λ k. free_or_job b (i + k)) n
            (λ k h. ap (λ (t : Bool). t || eqb (get_or b (uniques_at + unique_size * (i + k)) 0) 0) (sym (free k h)))) ∙ sym (all_later (free_or_job b) i n);
      }

-- ---- a job

or_none_lem : (a : Bool) → a || false ≡ a
or_none_lem true = refl
or_none_lem false = refl

-- a set that grows where a test holds, or where it does not
grows : (t : Bool) (s x c : ℕ) → has (cond t (union s (insert 0 x)) s) c ≡ has s c || (t && eqb x c)
grows true s x c = has_more s x c
grows false s x c = sym (or_none_lem (has s c))

grows_else : (t : Bool) (s x c : ℕ) → has (cond t s (union s (insert 0 x))) c ≡ has s c || (not t && eqb x c)
grows_else true s x c = sym (or_none_lem (has s c))
grows_else false s x c = has_more s x c

module _ (b : Bytes) (i : ℕ) (v : S.Survey) (before : Surveyed b i v) (job : live (row_in connection_count b i) ≡ true) where
  -- what a test of the earlier rows and of this one says
  and_this : (p : ℕ → Bool) (s t : Bool) → s ≡ any p (numbers 0 i) → t ≡ p i → s || t ≡ any p (numbers 0 (i + 1))
  and_this p s t e f = ap₂ ◌||◌ e f ∙ sym (any_next p i)

  bit : ℕ
  bit = insert 0 ((row_in connection_count b i).serial % 32)

  fresh : union v.residues bit ≡ v.sum + bit → (x y : ℕ) → x < y → y < i + 1 → live (row_in connection_count b x) ≡ true → (row_in connection_count b x).serial ≡ (row_in connection_count b y).serial → ⊥
  unfolding bit
  fresh q x y h g l e = go (ltb y i) refl (sum_fresh v.residues v.sum ((row_in connection_count b i).serial % 32) before.least q)
    where
      go : (t : Bool) → ltb y i ≡ t → (v.residues ≡ v.sum) × (has v.residues ((row_in connection_count b i).serial % 32) ≡ false) → ⊥
      go true r f = before.distinct f.0 x y h (ltb-true y i r) l e
      go false r f =
          let m : y ≡ i = omega (arith, ltb-false y i r) in
          let same : (row_in connection_count b x).serial % 32 ≡ (row_in connection_count b i).serial % 32 = ap (λ (s : ℕ). s % 32) (e ∙ ap (λ (k : ℕ). (row_in connection_count b k).serial) m) in
          let seen : has_residue b ((row_in connection_count b i).serial % 32) x ≡ true = rw l (eq-eqb ((row_in connection_count b x).serial % 32) ((row_in connection_count b i).serial % 32) same) in
          true≢false (sym (before.residues ((row_in connection_count b i).serial % 32) ∙ some_by (has_residue b ((row_in connection_count b i).serial % 32)) i x (omega arith) seen) ∙ f.1)

  pub job_surveyed : Surveyed b (i + 1) (with_job v (row_in connection_count b i).serial (row_in connection_count b i).function (row_in connection_count b i).holder)
  unfolding with_job bit
  job_surveyed =
      record {
        residues = λ r. has_more v.residues ((row_in connection_count b i).serial % 32) r ∙ and_this (has_residue b r) _ _ (before.residues r) (ap (λ (t : Bool). t && eqb ((row_in connection_count b i).serial % 32) r) (sym job));
        least = union_least v.residues bit v.sum before.least;
        fits = omega (arith, before.fits, insert_below 0 ((row_in connection_count b i).serial % 32) 32 (omega arith) (omega arith));
        distinct = fresh;
        queued = λ q. grows (eqb (row_in connection_count b i).holder 0) v.queued ((row_in connection_count b i).function % 32) q
            ∙ and_this (queued_for b q) _ _ (before.queued q) (ap (λ (t : Bool). (t && eqb (row_in connection_count b i).holder 0) && eqb ((row_in connection_count b i).function % 32) q) (sym job));
        grabbed = λ q. grows_else (eqb (row_in connection_count b i).holder 0) v.grabbed ((row_in connection_count b i).function % 32) q
            ∙ and_this (grabbed_for b q) _ _ (before.grabbed q) (ap (λ (t : Bool). (t && not (eqb (row_in connection_count b i).holder 0)) && eqb ((row_in connection_count b i).function % 32) q) (sym job));
        holding = λ x. grows_else (eqb (row_in connection_count b i).holder 0) v.holding (((row_in connection_count b i).holder - 1) % 32) x
            ∙ and_this (held_by b x) _ _ (before.holding x) (ap (λ (t : Bool). (t && not (eqb (row_in connection_count b i).holder 0)) && eqb (((row_in connection_count b i).holder - 1) % 32) x) (sym job));
        clear = before.clear ∙ sym (all_next (free_or_job b) i ∙ ap (λ (t : Bool). all (free_or_job b) (numbers 0 i) && (t || eqb (get_or b (uniques_at + unique_size * i) 0) 0)) job ∙ and_true (all (free_or_job b) (numbers 0 i)));
      }

-- ---- as the code passes rows

module _ (b : Bytes) (v w : S.Survey) where
  pub row_free : (i s : ℕ) → Surveyed b i v → s ≡ (row_in connection_count b i).serial → s ≡ 0 → w ≡ with_free v (eqb (get_or b (uniques_at + unique_size * i) 0) 0) → Surveyed b (i + 1) w
  row_free i s before e z f =
      let here : i + 0 ≡ i = add-zero i in
      rw f (free_surveyed b i 1 v before (λ k h. let m : i + k ≡ i = omega arith in rw m (ap (λ (x : ℕ). not (eqb x 0)) (sym e ∙ z)))
      (eqb (get_or b (uniques_at + unique_size * i) 0) 0) (rw here (sym (and_true (eqb (get_or b (uniques_at + unique_size * i) 0) 0)))))

  pub row_job : (i s f h : ℕ) → Surveyed b i v → s ≡ (row_in connection_count b i).serial → (s ≡ 0 → ⊥) → f ≡ (row_in connection_count b i).function → h ≡ (row_in connection_count b i).holder → w ≡ with_job v s f h → Surveyed b (i + 1) w
  row_job i s f h before e n ef eh g =
      rw (g, e, ef, eh) (job_surveyed b i v before (ap not (ne_eqb (row_in connection_count b i).serial 0 (λ z. n (e ∙ z)))))

  pub rows_free : (p : ℕ) (c : Bool) → Surveyed b p v → all (zero_at b (serials_at + 4 * p)) (numbers 0 job_count) ≡ true → c ≡ all (empty_at b (uniques_at + unique_size * p) 64) (numbers 0 8)
      → w ≡ with_free v c → Surveyed b (p + 8) w
  rows_free p c before z e f =
      rw f (free_surveyed b p 8 v before (free_rows b p z) c
      (e ∙ same_below (empty_at b (uniques_at + unique_size * p) 64) (λ k. eqb (get_or b (uniques_at + unique_size * (p + k)) 0) 0) 8
      (λ k h. let m : uniques_at + unique_size * p + 64 * k ≡ uniques_at + unique_size * (p + k) = omega arith in ap (λ (x : ℕ). eqb (get_or b x 0) 0) m)))
