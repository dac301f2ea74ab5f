-- A sound table: every table rule but those three that the end of an event makes true. It stays sound when its connections, its
-- functions or its jobs are made anew in one of the ways that events do it. Assumes nothing.
use Prim.Native.Nat.{ℕ, ◌+◌, ◌<◌}
use mathlib.Core.Path.{◌≡◌, refl, sym, subst}
use mathlib.Core.Bool.{Bool, true, false, not, cond}
use mathlib.Core.List.{List, []}
use native.Mathlib.Omega.{arith}
use borrow.Author.Tests.{le-leb, leb-true}
use lib.ListN.{length}
use lib.Dec.{leb}
use Rattle.octets.specs.Bytes.{Bytes, same, first_zero}
use Rattle.octets.proofs.Strings.{and_left, and_right, same_is}
use Rattle.sets.specs.Sets.{is_empty}
use Rattle.server.specs.declared.Connection.{Connection}
use Rattle.lists.specs.Lists.{all, implies}
use Rattle.server.specs.Sizes.{name_size}
use Rattle.server.specs.Table.{Function, Job, Table, no_function, no_row, no_job, function_at, job_at, live, with_connections, with_ids, with_functions}
use Rattle.server.specs.Rules.{next_small, serials_below, serials_distinct, text_within, names_within, texts_within, together, sizes_within, numbers_free, row_is_free, row_has_meaning, rows_have_meaning, is_known, functions_distinct, abilities_open, listeners_open, holders_open, closed_clear, uniques_distinct, ids_within, ids_open, hub_named}
use Rattle.lists.proofs.Rows.{implies_by, implies_use, all_at, all_row, all_by, all_imp}
use Rattle.server.proofs.Rows.{free_row_lem}
use Rattle.server_laws.proofs.Openness.{holder_more}

-- a live job's function has a name
abbrev pub job_named : Table → Job → Bool
job_named t j = implies (live j.row) (is_known (function_at t j.row.function))

abbrev pub jobs_named : Table → Bool
jobs_named t = all (job_named t) t.jobs

-- so has a function that some connection can do
abbrev pub ables_named : Table → Bool
ables_named t = all (λ x. implies (not (is_empty x.able)) (is_known x)) t.functions

-- the row is zero throughout, or every field of it has a meaning
abbrev pub row_means : Table → Job → Bool
row_means t j = cond (live j.row) (row_has_meaning t j) (row_is_free j)

pub record Sound (t : Table) : Type 0 where
  pub small : next_small t ≡ true
  pub below : serials_below t ≡ true
  pub serials : serials_distinct t ≡ true
  pub names : names_within t ≡ true
  pub texts : texts_within t ≡ true
  pub sizes : sizes_within t ≡ true
  pub rows : rows_have_meaning t ≡ true
  pub functions : functions_distinct t ≡ true
  pub abilities : abilities_open t ≡ true
  pub listeners : listeners_open t ≡ true
  pub holders : holders_open t ≡ true
  pub clear : closed_clear t ≡ true
  pub uniques : uniques_distinct t ≡ true
  pub ids : ids_within t ≡ true
  pub bearers : ids_open t ≡ true
  pub named : hub_named t ≡ true
  pub jobs_known : jobs_named t ≡ true
  pub ables_known : ables_named t ≡ true

-- ---- connections anew

pub sound_connections : (t : Table) (cs : List Connection) → let u = with_connections cs t in
    length cs ≡ length t.connections → abilities_open u ≡ true → listeners_open u ≡ true → holders_open u ≡ true → closed_clear u ≡ true → ids_open u ≡ true → Sound t → Sound u
sound_connections t cs long a l o c b h =
    record {
      small = h.small;
      below = h.below;
      serials = h.serials;
      names = h.names;
      texts = h.texts;
      sizes = h.sizes;
      rows = rw long h.rows;
      functions = h.functions;
      abilities = a;
      listeners = l;
      holders = o;
      clear = c;
      uniques = h.uniques;
      ids = h.ids;
      bearers = b;
      named = h.named;
      jobs_known = h.jobs_known;
      ables_known = h.ables_known;
    }

-- ---- client ids anew

pub sound_ids : (t : Table) (is : List Bytes) → let u = with_ids is t in ids_within u ≡ true → ids_open u ≡ true → Sound t → Sound u
sound_ids t is w b h =
    record {
      small = h.small;
      below = h.below;
      serials = h.serials;
      names = h.names;
      texts = h.texts;
      sizes = h.sizes;
      rows = h.rows;
      functions = h.functions;
      abilities = h.abilities;
      listeners = h.listeners;
      holders = all_imp _ _ (λ j e. holder_more t (with_ids is t) (λ c o. o) j.row.holder e) t.jobs h.holders;
      clear = h.clear;
      uniques = h.uniques;
      ids = w;
      bearers = b;
      named = h.named;
      jobs_known = h.jobs_known;
      ables_known = h.ables_known;
    }

-- ---- functions anew

-- a place without a job is empty
pub free_none : (j : Job) → live j.row ≡ false → row_is_free j ≡ true → j ≡ no_job
free_none j l e =
    let texts = and_right (numbers_free j.row) _ e in
    let numbers = and_right (same j.unique []) _ texts in
    let r : j.row ≡ no_row = free_row_lem j.row l (and_left (numbers_free j.row) _ e) in
    let u : j.unique ≡ [] = same_is _ [] (and_left (same j.unique []) _ texts) in
    let n : j.numerator ≡ [] = same_is _ [] (and_left (same j.numerator []) _ numbers) in
    let d : j.denominator ≡ [] = same_is _ [] (and_right (same j.numerator []) _ numbers) in
    λ i. record { row = r i; unique = u i; numerator = n i; denominator = d i }

-- an empty row is within sizes in any table
pub none_together : (t : Table) → names_within t ≡ true → leb (together t no_job) 1022 ≡ true
unfolding first_zero
none_together t n =
    le-leb (length (function_at t 0).name + 0 + 0) 1022 (omega (
      arith,
      leb-true (length (function_at t 0).name) 32 (and_left (leb (length (function_at t 0).name) 32) _
          (all_row (λ x. text_within name_size x.name) t.functions 0 no_function n refl)),
    ))

module _ (t : Table) (fs : List Function) (long : length fs ≡ length t.functions) where
  -- the functions of unfinished jobs keep their names
  abbrev pub NamesStay : Type 0
  NamesStay = (i : ℕ) → i < length t.jobs → live (job_at t i).row ≡ true → (function_at (with_functions fs t) (job_at t i).row.function).name ≡ (function_at t (job_at t i).row.function).name

  sizes_stay : NamesStay → Sound t → names_within (with_functions fs t) ≡ true → sizes_within (with_functions fs t) ≡ true
  sizes_stay s h n = all_by (λ j. leb (together (with_functions fs t) j) 1022) t.jobs no_job (λ i l. go i l (live (job_at t i).row) refl)
    where
      go : (i : ℕ) → i < length t.jobs → (b : Bool) → live (job_at t i).row ≡ b → leb (together (with_functions fs t) (job_at t i)) 1022 ≡ true
      go i l true e = rw (s i l e) (all_at (λ j. leb (together t j) 1022) t.jobs i no_job h.sizes l)
      go i l false e =
          let m : row_is_free (job_at t i) ≡ true = rw e at (all_at (row_means t) t.jobs i no_job h.rows l) in
          subst (λ (j : Job). leb (together (with_functions fs t) j) 1022 ≡ true) (sym (free_none (job_at t i) e m)) (none_together (with_functions fs t) n)

  jobs_stay : NamesStay → Sound t → jobs_named (with_functions fs t) ≡ true
  jobs_stay s h = all_by (job_named (with_functions fs t)) t.jobs no_job (λ i l. implies_by (live (job_at t i).row) _ (λ e.
      rw (s i l e) (implies_use (live (job_at t i).row) _ (all_at (job_named t) t.jobs i no_job h.jobs_known l) e)))

  pub sound_functions : NamesStay → let u = with_functions fs t in
      names_within u ≡ true → functions_distinct u ≡ true → abilities_open u ≡ true → ables_named u ≡ true → Sound t → Sound u
  sound_functions s n f a k h =
      record {
        small = h.small;
        below = h.below;
        serials = h.serials;
        names = n;
        texts = h.texts;
        sizes = sizes_stay s h n;
        rows = rw long h.rows;
        functions = f;
        abilities = a;
        listeners = h.listeners;
        holders = all_imp _ _ (λ j e. holder_more t (with_functions fs t) (λ c o. o) j.row.holder e) t.jobs h.holders;
        clear = h.clear;
        uniques = h.uniques;
        ids = h.ids;
        bearers = h.bearers;
        named = h.named;
        jobs_known = jobs_stay s h;
        ables_known = k;
      }
