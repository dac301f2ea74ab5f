-- The tests of serials are the rules: below the last one, and distinct. Assumes nothing.
use Prim.Native.Nat.{ℕ, ◌+◌}
use mathlib.Core.Path.{◌≡◌, refl, sym, ap, ◌∙◌}
use mathlib.Core.Bool.{Bool, true, false, not, ◌||◌, true≢false}
use mathlib.Core.List.{List}
use borrow.Author.Tests.{eqb-true, eq-eqb, not-true}
use lib.Dec.{eqb, leb}
use Rattle.octets.specs.Bytes.{Bytes}
use Rattle.lists.specs.Lists.{all, pairwise, numbers}
use Rattle.server.specs.Sizes.{connection_count, job_count}
use Rattle.server.specs.Table.{live}
use Rattle.server.specs.Layout.{little_at, row_in, job_in, table_of}
use Rattle.server.specs.Rules.{serials_below, serials_apart, serials_distinct}
use Rattle.table_passes.proofs.Tests.{iff}
use Rattle.table_passes.proofs.Rows.{jobs_all, jobs_pairs}
use Rattle.table_passes.proofs.Pairs.{pairs_at, pairs_by, apart_all, apart_by}
use Rattle.table_passes.specs.Arrays.{Twice}
use Rattle.check_survey.specs.declared.Survey as S
use Rattle.check_survey.specs.Surveyed.{Surveyed}
use Rattle.check_rings.specs.Rings.{apart_at}
use Rattle.check_numbers.specs.Numbers.{serial_in, serial_below}

module _ (b : Bytes) where
  last_is : (table_of connection_count b).last ≡ little_at 4 b 0
  unfolding table_of
  last_is = refl

  pub below_is : (last : ℕ) → last ≡ little_at 4 b 0 → all (serial_below b last) (numbers 0 job_count) ≡ serials_below (table_of connection_count b)
  below_is last e =
      sym (jobs_all connection_count b (λ j. leb j.row.serial (table_of connection_count b).last) ∙ ap (λ (x : ℕ). all (λ k. leb (row_in connection_count b k).serial x) (numbers 0 job_count)) (last_is ∙ sym e))

  -- two rows, by cases
  two_apart : (x y : ℕ) → (live (row_in connection_count b x) ≡ true → (row_in connection_count b x).serial ≡ (row_in connection_count b y).serial → ⊥) → serials_apart (job_in connection_count b x) (job_in connection_count b y) ≡ true
  two_apart x y f = go (live (row_in connection_count b x)) (eqb (row_in connection_count b x).serial (row_in connection_count b y).serial) refl refl
    where
      go : (s t : Bool) → live (row_in connection_count b x) ≡ s → eqb (row_in connection_count b x).serial (row_in connection_count b y).serial ≡ t → not s || not t ≡ true
      go false t p q = refl
      go true false p q = refl
      go true true p q = absurd (f p (eqb-true (row_in connection_count b x).serial (row_in connection_count b y).serial q))

  pub residues_distinct : (v : S.Survey) → Surveyed b 32 v → v.residues ≡ v.sum → true ≡ serials_distinct (table_of connection_count b)
  residues_distinct v s e =
      sym (jobs_pairs connection_count b serials_apart ∙ pairs_by (λ i k. serials_apart (job_in connection_count b i) (job_in connection_count b k)) 32 (λ x y h g. two_apart x y (λ l q. s.distinct e x y h g l q)))

  pub apart_is : (w : List ℕ) → Twice 32 (serial_in b) w → all (λ d. all (apart_at (λ x. eqb x 0) w (d + 1)) (numbers 0 job_count)) (numbers 0 16) ≡ serials_distinct (table_of connection_count b)
  apart_is w t =
      iff (all (λ d. all (apart_at (λ x. eqb x 0) w (d + 1)) (numbers 0 job_count)) (numbers 0 16)) (pairwise (λ i k. serials_apart (job_in connection_count b i) (job_in connection_count b k)) (numbers 0 job_count)) to from
      ∙ sym (jobs_pairs connection_count b serials_apart)
    where
      to : all (λ d. all (apart_at (λ x. eqb x 0) w (d + 1)) (numbers 0 job_count)) (numbers 0 16) ≡ true → pairwise (λ i k. serials_apart (job_in connection_count b i) (job_in connection_count b k)) (numbers 0 job_count) ≡ true
      to e =
          pairs_by (λ i k. serials_apart (job_in connection_count b i) (job_in connection_count b k)) 32
          (λ x y h g. two_apart x y (λ l q. apart_all (λ x. eqb x 0) 16 32 w (λ k. (row_in connection_count b k).serial) refl t.0 t.1 e x y h g (not-true (eqb (row_in connection_count b x).serial 0) l) q))

      from : pairwise (λ i k. serials_apart (job_in connection_count b i) (job_in connection_count b k)) (numbers 0 job_count) ≡ true → all (λ d. all (apart_at (λ x. eqb x 0) w (d + 1)) (numbers 0 job_count)) (numbers 0 16) ≡ true
      from e =
          apart_by (λ x. eqb x 0) 16 32 w (λ k. (row_in connection_count b k).serial) refl t.0 t.1
          (λ x y h g o q. clash x y o q (pairs_at (λ i k. serials_apart (job_in connection_count b i) (job_in connection_count b k)) 32 x y e h g))
        where
          clash : (x y : ℕ) → eqb (row_in connection_count b x).serial 0 ≡ false → (row_in connection_count b x).serial ≡ (row_in connection_count b y).serial → serials_apart (job_in connection_count b x) (job_in connection_count b y) ≡ true → ⊥
          clash x y o q f = true≢false (sym f ∙ rw (o, eq-eqb (row_in connection_count b x).serial (row_in connection_count b y).serial q))
