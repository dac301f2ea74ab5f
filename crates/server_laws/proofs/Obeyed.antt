-- The rules as one test against the rules one by one: a table that obeys them is sound, its functions are as defined, its queued jobs
-- are awaited and its sleepers idle; and the other way round. Assumes nothing.
use Prim.Native.Nat.{ℕ, zero, suc, ◌+◌, ◌<◌}
use mathlib.Core.Path.{◌≡◌, refl, ap, subst}
use mathlib.Core.Bool.{Bool, true, false, not, cond}
use mathlib.Core.List.{List, [], ◌∷◌}
use native.Mathlib.Nat.{zero-add, le_of_suc-le-suc, not-suc-le-zero}
use native.Mathlib.Omega.{arith}
use lib.ListN.{length, get_or}
use Rattle.octets.proofs.Strings.{and_left, and_right, and_both}
use Rattle.sets.specs.Sets.{is_empty}
use Rattle.server.specs.declared.JobRow.{JobRow}
use Rattle.server.specs.Table.{Function, Table, no_function, no_job, function_at, job_at, rows_of, live, wanted}
use Rattle.lists.specs.Lists.{implies}
use Rattle.server.specs.Rules.{next_small, serials_below, serials_distinct, names_within, texts_within, sizes_within, rows_have_meaning, row_has_meaning, is_known, functions_distinct, as_defined, functions_as_defined, abilities_open, listeners_open, holders_open, closed_clear, queued_awaited, uniques_distinct, sleepers_idle, ids_within, ids_open, obeys}
use Rattle.lists.proofs.Rows.{clash, implies_by, or_left, all_at, all_by}
use Rattle.server.proofs.Rows.{in_range}
use Rattle.server_laws.proofs.Sound.{Sound, job_named, jobs_named, ables_named, row_means}
use Rattle.server_laws.proofs.Settled.{place_defined, job_wants}

pub record Obeyed (t : Table) : Type 0 where
  pub sound : Sound t
  pub defined : functions_as_defined t ≡ true
  pub awaited : queued_awaited t ≡ true
  pub idle : sleepers_idle t ≡ true

pub obeys_by : (t : Table) → Obeyed t → obeys t ≡ true
unfolding obeys
obeys_by t h =
    let s = h.sound in
    and_both (next_small t) _ s.small (and_both (serials_below t) _ s.below (and_both (serials_distinct t) _ s.serials
    (and_both (names_within t) _ s.names (and_both (texts_within t) _ s.texts (and_both (sizes_within t) _ s.sizes
    (and_both (rows_have_meaning t) _ s.rows (and_both (functions_distinct t) _ s.functions (and_both (functions_as_defined t) _ h.defined
    (and_both (abilities_open t) _ s.abilities (and_both (listeners_open t) _ s.listeners (and_both (holders_open t) _ s.holders
    (and_both (closed_clear t) _ s.clear (and_both (queued_awaited t) _ h.awaited (and_both (uniques_distinct t) _ s.uniques
    (and_both (sleepers_idle t) _ h.idle (and_both (ids_within t) _ s.ids (and_both (ids_open t) _ s.bearers s.named)))))))))))))))))

-- ---- functions as defined, by place

defined_at : (rs : List JobRow) (i : ℕ) (fs : List Function) (k : ℕ) → as_defined rs i fs ≡ true → k < length fs → place_defined rs (i + k) (get_or fs k no_function) ≡ true
defined_at rs i [] k e l = absurd (not-suc-le-zero l)
defined_at rs i (x ∷ fs) zero e l = subst (λ (n : ℕ). place_defined rs n x ≡ true) (omega arith) (and_left (place_defined rs i x) _ e)
defined_at rs i (x ∷ fs) (suc k) e l =
    subst (λ (n : ℕ). place_defined rs n (get_or fs k no_function) ≡ true) (omega arith) (defined_at rs (suc i) fs k (and_right (place_defined rs i x) _ e) (le_of_suc-le-suc l))

-- a wanted place has a name
pub wanted_named : (t : Table) → functions_as_defined t ≡ true → (q : ℕ) → q < length t.functions → wanted (rows_of t) q (function_at t q).able ≡ true → is_known (function_at t q) ≡ true
wanted_named t e q l w =
    go (is_known (function_at t q)) (subst (λ (n : ℕ). place_defined (rows_of t) n (function_at t q) ≡ true) (zero-add q) (defined_at (rows_of t) 0 t.functions q e l))
  where
    go : (b : Bool) → cond b (wanted (rows_of t) q (function_at t q).able) (not (wanted (rows_of t) q (function_at t q).able)) ≡ true → b ≡ true
    go true d = refl
    go false d = clash d (ap not w)

jobs_named_lem : (t : Table) → functions_as_defined t ≡ true → rows_have_meaning t ≡ true → jobs_named t ≡ true
jobs_named_lem t e r =
    all_by (job_named t) t.jobs no_job (λ i l. implies_by (live (job_at t i).row) _ (λ v.
    let m : row_has_meaning t (job_at t i) ≡ true = rw v at (all_at (row_means t) t.jobs i no_job r l) in
    let n = (in_range (length t.functions) (length t.connections) (job_at t i).row m).function in
    wanted_named t e (job_at t i).row.function n (job_wants t i (function_at t (job_at t i).row.function) l v)))

ables_named_lem : (t : Table) → functions_as_defined t ≡ true → ables_named t ≡ true
ables_named_lem t e =
    all_by (λ x. implies (not (is_empty x.able)) (is_known x)) t.functions no_function (λ q l. implies_by (not (is_empty (function_at t q).able)) _ (λ n.
    wanted_named t e q l (or_left (not (is_empty (function_at t q).able)) _ n)))

-- ---- the rules one by one

pub obeyed : (t : Table) → obeys t ≡ true → Obeyed t
unfolding obeys
obeyed t e =
    let e2 = and_right (next_small t) _ e in
    let e3 = and_right (serials_below t) _ e2 in
    let e4 = and_right (serials_distinct t) _ e3 in
    let e5 = and_right (names_within t) _ e4 in
    let e6 = and_right (texts_within t) _ e5 in
    let e7 = and_right (sizes_within t) _ e6 in
    let e8 = and_right (rows_have_meaning t) _ e7 in
    let e9 = and_right (functions_distinct t) _ e8 in
    let e10 = and_right (functions_as_defined t) _ e9 in
    let e11 = and_right (abilities_open t) _ e10 in
    let e12 = and_right (listeners_open t) _ e11 in
    let e13 = and_right (holders_open t) _ e12 in
    let e14 = and_right (closed_clear t) _ e13 in
    let e15 = and_right (queued_awaited t) _ e14 in
    let e16 = and_right (uniques_distinct t) _ e15 in
    let e17 = and_right (sleepers_idle t) _ e16 in
    let e18 = and_right (ids_within t) _ e17 in
    let r = and_left (rows_have_meaning t) _ e7 in
    let d = and_left (functions_as_defined t) _ e9 in
    record {
      sound =
          record {
            small = and_left (next_small t) _ e;
            below = and_left (serials_below t) _ e2;
            serials = and_left (serials_distinct t) _ e3;
            names = and_left (names_within t) _ e4;
            texts = and_left (texts_within t) _ e5;
            sizes = and_left (sizes_within t) _ e6;
            rows = r;
            functions = and_left (functions_distinct t) _ e8;
            abilities = and_left (abilities_open t) _ e10;
            listeners = and_left (listeners_open t) _ e11;
            holders = and_left (holders_open t) _ e12;
            clear = and_left (closed_clear t) _ e13;
            uniques = and_left (uniques_distinct t) _ e15;
            ids = and_left (ids_within t) _ e17;
            bearers = and_left (ids_open t) _ e18;
            named = and_right (ids_open t) _ e18;
            jobs_known = jobs_named_lem t d r;
            ables_known = ables_named_lem t d;
          };
      defined = d;
      awaited = and_left (queued_awaited t) _ e14;
      idle = and_left (sleepers_idle t) _ e16;
    }
