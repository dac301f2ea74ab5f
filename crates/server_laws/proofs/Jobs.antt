-- A sound table stays sound when its jobs go on, end or are dropped, and when a new job takes a free place. Assumes nothing.
use Prim.Native.Nat.{ℕ, suc, ◌<◌, ◌≤◌}
use mathlib.Core.Path.{◌≡◌, refl, ap, sym, ◌∙◌}
use mathlib.Core.Bool.{Bool, true, false, not, ◌&&◌, ◌||◌}
use mathlib.Core.List.{List, []}
use native.Mathlib.Omega.{arith}
use borrow.Author.Tests.{le-leb, leb-true, lt-ltb, eqb-true, ne_eqb}
use lib.ListN.{length}
use lib.Dec.{leb, eqb, leb-zero}
use Rattle.octets.specs.Bytes.{same}
use Rattle.octets.proofs.Strings.{and_left, and_right, and_both, same_is}
use Rattle.lists.specs.Lists.{all, implies}
use Rattle.server.specs.Sizes.{unique_size}
use Rattle.server.specs.Table.{Job, Table, no_job, function_at, job_at, live, with_last_serial, with_jobs, set_job}
use Rattle.server.specs.Rules.{serials_below, serials_apart, text_within, stored_number, together, is_known, only_open, holder_open, uniques_apart}
use Rattle.lists.proofs.Cases.{All2}
use Rattle.lists.proofs.Rows.{implies_by, implies_use, or_right, all_by, all_imp, all_kept, all_set, pairwise_kept, pairwise_set}
use Rattle.server_laws.proofs.Openness.{none_open, holder_more}
use Rattle.server_laws.proofs.Sound.{Sound, job_named, row_means, none_together}

abbrev pub stored_both : Job → Bool
stored_both j = stored_number j.numerator && stored_number j.denominator

-- job k is job j a step later
pub record Still (t : Table) (j k : Job) : Type 0 where
  pub serial : k.row.serial ≡ j.row.serial
  pub function : k.row.function ≡ j.row.function
  pub size : k.row.size ≡ j.row.size
  pub unique : k.unique ≡ j.unique
  pub texts : stored_both j ≡ true → stored_both k ≡ true
  pub means : row_means t j ≡ true → row_means t k ≡ true
  pub listeners : only_open t j.row.listeners ≡ true → only_open t k.row.listeners ≡ true
  pub holder : holder_open t j.row.holder ≡ true → holder_open t k.row.holder ≡ true

-- it goes on, or is over and its place is set to zero
pub data Goes (t : Table) (j : Job) : Job → Type 0 where
  over : Goes t j no_job
  on : {k : Job} → Still t j k → Goes t j k

-- ---- one rule at a time, for a job that goes on or is over

below_goes : (t : Table) (j k : Job) → Goes t j k → leb j.row.serial t.last ≡ true → leb k.row.serial t.last ≡ true
below_goes t j k over e = leb-zero t.last
below_goes t j k (on s) e = rw s.serial e

pub either : (b : Bool) → not (not b) || not b ≡ true
either true = refl
either false = refl

neither : (b : Bool) → not (b && false) ≡ true
neither true = refl
neither false = refl

serials_go : (t : Table) (j k x y : Job) → Goes t j x → Goes t k y → serials_apart j k ≡ true → serials_apart x y ≡ true
serials_go t j k x y over q e = refl
serials_go t j k x y (on s) over e = either (eqb x.row.serial 0)
serials_go t j k x y (on s) (on r) e = rw (s.serial, r.serial) e

uniques_go : (t : Table) (j k x y : Job) → Goes t j x → Goes t k y → uniques_apart j k ≡ true → uniques_apart x y ≡ true
uniques_go t j k x y over q e = refl
uniques_go t j k x y (on s) over e = neither (live x.row)
uniques_go t j k x y (on s) (on r) e = rw (s.serial, r.serial, s.function, r.function, s.unique, r.unique) e

texts_go : (t : Table) (j k : Job) → Goes t j k → implies (live j.row) (text_within unique_size j.unique && stored_both j) ≡ true → implies (live k.row) (text_within unique_size k.unique && stored_both k) ≡ true
texts_go t j k over e = refl
texts_go t j k (on s) e =
    implies_by (live k.row) _ (λ l.
    let a = implies_use (live j.row) _ e (ap (λ (n : ℕ). not (eqb n 0)) (sym s.serial) ∙ l) in
    and_both (text_within unique_size k.unique) (stored_both k) (rw s.unique (and_left (text_within unique_size j.unique) (stored_both j) a)) (s.texts (and_right (text_within unique_size j.unique) (stored_both j) a)))

sizes_go : (t : Table) (j k : Job) → Goes t j k → leb (together t no_job) 1022 ≡ true → leb (together t j) 1022 ≡ true → leb (together t k) 1022 ≡ true
sizes_go t j k over n e = n
sizes_go t j k (on s) n e = rw (s.function, s.unique, s.size) e

rows_go : (t : Table) (j k : Job) → Goes t j k → row_means t j ≡ true → row_means t k ≡ true
unfolding same
rows_go t j k over e = refl
rows_go t j k (on s) e = s.means e

listeners_go : (t : Table) (j k : Job) → Goes t j k → only_open t j.row.listeners ≡ true → only_open t k.row.listeners ≡ true
listeners_go t j k over e = none_open t
listeners_go t j k (on s) e = s.listeners e

holders_go : (t : Table) (j k : Job) → Goes t j k → holder_open t j.row.holder ≡ true → holder_open t k.row.holder ≡ true
holders_go t j k over e = refl
holders_go t j k (on s) e = s.holder e

named_goes : (t : Table) (j k : Job) → Goes t j k → job_named t j ≡ true → job_named t k ≡ true
named_goes t j k over e = refl
named_goes t j k (on s) e = rw (s.serial, s.function) e

pub sound_jobs : (t : Table) {ks : List Job} → All2 (Goes t) t.jobs ks → Sound t → Sound (with_jobs ks t)
sound_jobs t {ks} g h =
    record {
      small = h.small;
      below = all_kept _ _ (below_goes t) g h.below;
      serials = pairwise_kept serials_apart (serials_go t) g h.serials;
      names = h.names;
      texts = all_kept _ _ (texts_go t) g h.texts;
      sizes = all_kept _ _ (λ j k s. sizes_go t j k s (none_together t h.names)) g h.sizes;
      rows = all_kept _ _ (rows_go t) g h.rows;
      functions = h.functions;
      abilities = h.abilities;
      listeners = all_kept _ _ (listeners_go t) g h.listeners;
      holders = all_kept _ _ (λ j k s e. holder_more t (with_jobs ks t) (λ c o. o) k.row.holder (holders_go t j k s e)) g h.holders;
      clear = h.clear;
      uniques = pairwise_kept uniques_apart (uniques_go t) g h.uniques;
      ids = h.ids;
      bearers = h.bearers;
      named = h.named;
      jobs_known = all_kept _ _ (named_goes t) g h.jobs_known;
      ables_known = h.ables_known;
    }

-- ---- a new job

-- two unfinished jobs that share function and non-empty unique
pub record Twin (j k : Job) : Type 0 where
  pub first : live j.row ≡ true
  pub second : live k.row ≡ true
  pub unique : j.unique ≡ k.unique
  pub some_unique : same j.unique [] ≡ false
  pub function : j.row.function ≡ k.row.function

apart_by : (j k : Job) → (Twin j k → ⊥) → uniques_apart j k ≡ true
apart_by j k f = go (live j.row) (live k.row) (same j.unique []) (eqb j.row.function k.row.function) (same j.unique k.unique) refl refl refl refl refl
  where
    go : (a b c d e : Bool) → live j.row ≡ a → live k.row ≡ b → same j.unique [] ≡ c → eqb j.row.function k.row.function ≡ d → same j.unique k.unique ≡ e
        → not (a && (b && (not c && (d && e)))) ≡ true
    go false b c d e p q r s u = refl
    go true false c d e p q r s u = refl
    go true true true d e p q r s u = refl
    go true true false false e p q r s u = refl
    go true true false true false p q r s u = refl
    go true true false true true p q r s u = absurd (f (record { first = p; second = q; unique = same_is _ _ u; some_unique = r; function = eqb-true _ _ s }))

turned : {j k : Job} → Twin j k → Twin k j
turned {j} {k} w = record { first = w.second; second = w.first; unique = sym w.unique; some_unique = rw w.unique at w.some_unique; function = sym w.function }

-- what a new job brings into a table that has its function
pub record New (t : Table) (j : Job) : Type 0 where
  pub serial : j.row.serial ≡ suc t.last
  pub texts : text_within unique_size j.unique && stored_both j ≡ true
  pub sizes : leb (together t j) 1022 ≡ true
  pub means : row_means t j ≡ true
  pub listeners : only_open t j.row.listeners ≡ true
  pub holder : holder_open t j.row.holder ≡ true
  pub named : is_known (function_at t j.row.function) ≡ true
  pub alone : (i : ℕ) → i < length t.jobs → Twin j (job_at t i) → ⊥

abbrev pub with_new : Table → ℕ → Job → Table
with_new t p j = with_last_serial (suc t.last) (set_job t p j)

-- what is true of a job whose serial has been given out is true of all
given_out : (t : Table) (q : Job → Bool) → ((k : Job) → k.row.serial ≤ t.last → q k ≡ true) → serials_below t ≡ true → all q t.jobs ≡ true
given_out t q f e = all_imp (λ k. leb k.row.serial t.last) q (λ k b. f k (leb-true _ _ b)) t.jobs e

pub sound_new : (t : Table) (p : ℕ) (j : Job) → t.last < 4294967295 → New t j → Sound t → Sound (with_new t p j)
sound_new t p j l n h =
    record {
      small = lt-ltb (suc t.last) 4294967296 (omega arith);
      below = all_set _ t.jobs p j (given_out t _ (λ k e. le-leb k.row.serial (suc t.last) (omega arith)) h.below) (rw n.serial (le-leb (suc t.last) (suc t.last) (omega arith)));
      serials =
          pairwise_set serials_apart t.jobs p j h.serials
          (given_out t _ (λ k e. or_right (not (live j.row)) _ (ap not (ne_eqb _ _ (λ (q : j.row.serial ≡ k.row.serial). omega (arith, n.serial))))) h.below)
          (given_out t _ (λ k e. or_right (not (live k.row)) _ (ap not (ne_eqb _ _ (λ (q : k.row.serial ≡ j.row.serial). omega (arith, n.serial))))) h.below);
      names = h.names;
      texts = all_set _ t.jobs p j h.texts (implies_by (live j.row) _ (λ e. n.texts));
      sizes = all_set _ t.jobs p j h.sizes n.sizes;
      rows = all_set _ t.jobs p j h.rows n.means;
      functions = h.functions;
      abilities = h.abilities;
      listeners = all_set _ t.jobs p j h.listeners n.listeners;
      holders =
          all_set _ t.jobs p j (all_imp _ _ (λ k e. holder_more t (with_new t p j) (λ c o. o) k.row.holder e) t.jobs h.holders)
          (holder_more t (with_new t p j) (λ c o. o) j.row.holder n.holder);
      clear = h.clear;
      uniques =
          pairwise_set uniques_apart t.jobs p j h.uniques
          (all_by _ t.jobs no_job (λ i g. apart_by j (job_at t i) (n.alone i g)))
          (all_by _ t.jobs no_job (λ i g. apart_by (job_at t i) j (λ w. n.alone i g (turned w))));
      ids = h.ids;
      bearers = h.bearers;
      named = h.named;
      jobs_known = all_set _ t.jobs p j h.jobs_known (implies_by (live j.row) _ (λ e. n.named));
      ables_known = h.ables_known;
    }
