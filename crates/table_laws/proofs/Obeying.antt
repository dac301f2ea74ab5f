-- A table of at most 256 connections that obeys the table rules fits its places. Assumes nothing.
use Prim.Native.Nat.{ℕ, zero, suc, ◌*◌, ◌^◌, ◌<◌, ◌≤◌}
use mathlib.Core.Path.{◌≡◌, refl, sym, ap, ◌∙◌, subst}
use mathlib.Core.Bool.{Bool, true, false, cond, ◌&&◌}
use mathlib.Core.List.{List, [], ◌∷◌}
use native.Mathlib.Nat.{mul-zero, mul-suc, pow-zero, pow-suc, not-suc-le-zero, le_of_suc-le-suc}
use native.Mathlib.Omega.{arith}
use borrow.Author.Tests.{leb-true, ltb-true, ne_eqb, eq-eqb}
use lib.ListN.{length, get_or}
use lib.Dec.{leb, ltb, eqb}
use lib.Pow.{pow_mono, pow-add}
use Rattle.octets.specs.Bytes.{Bytes, same, first_zero, zero_free, within, every}
use Rattle.octets.proofs.Strings.{and_left, and_right, same_is}
use Rattle.packet.specs.Arguments.{digits}
use Rattle.handle.proofs.Hubs.{hub_most_lem, hub_zero_free}
use Rattle.lists.specs.Lists.{all, implies}
use Rattle.server.specs.Sizes.{function_count, job_count, name_size, unique_size, id_size}
use Rattle.server.specs.Table.{Job, Table, no_function, no_job, id_at, function_at, job_at, live}
use Rattle.server.specs.Layout.{set_size}
use Rattle.server.specs.Rules.{next_small, serials_below, serials_distinct, text_within, stored_number, names_within, texts_within, together, sizes_within, numbers_free, row_is_free, row_has_meaning, rows_have_meaning, functions_distinct, functions_as_defined, only_open, abilities_open, listeners_open, holders_open, closed_clear, queued_awaited, uniques_distinct, sleepers_idle, ids_within, ids_open, obeys}
use Rattle.server.proofs.Rows.{RangeFits, free_fits, free_row_lem, range_fits}
use Rattle.table_laws.proofs.Round.{TextFits, Fitting}

-- the row at a place passes the test that all rows pass
all_at : {A : Type 0} (p : A → Bool) (l : List A) (i : ℕ) (d : A) → all p l ≡ true → i < length l → p (get_or l i d) ≡ true
all_at p [] i d e h = absurd (not-suc-le-zero h)
all_at p (x ∷ l) zero d e h = and_left (p x) _ e
all_at p (x ∷ l) (suc i) d e h = all_at p l i d (and_right (p x) _ e) (le_of_suc-le-suc h)

-- ---- texts

text_fits : (k : ℕ) (s : Bytes) → text_within k s ≡ true → TextFits k s
text_fits k s e = record { within = leb-true (length s) k (and_left (leb (length s) k) (zero_free s) e); clean = and_right (leb (length s) k) (zero_free s) e }

none_fits : (k : ℕ) (s : Bytes) → same s [] ≡ true → TextFits k s
unfolding first_zero
none_fits k s e = let q : s ≡ [] = same_is s [] e in record { within = rw q (omega arith); clean = rw q }

digits_clean : (s : Bytes) → digits s ≡ true → first_zero s ≡ length s
unfolding every first_zero
digits_clean [] e = refl
digits_clean (x ∷ s) e =
    let l : 48 ≤ x = leb-true 48 x (and_left (leb 48 x) (leb x 57) (and_left (within 48 57 x) (digits s) e)) in
    let z : eqb x 0 ≡ false = ne_eqb x 0 (λ q. omega arith) in
    rw z (ap suc (digits_clean s (and_right (within 48 57 x) (digits s) e)))

number_fits : (s : Bytes) → stored_number s ≡ true → TextFits 10 s
number_fits s e =
    record {
      within = leb-true (length s) 10 (and_right (leb 1 (length s)) (leb (length s) 10) (and_left (within 1 10 (length s)) (digits s) e));
      clean = eq-eqb _ _ (digits_clean s (and_right (within 1 10 (length s)) (digits s) e));
    }

-- ---- sets

pow_mul : (a m n : ℕ) → a ^ (m * n) ≡ (a ^ m) ^ n
pow_mul a m zero = ap (λ (x : ℕ). a ^ x) (mul-zero m) ∙ pow-zero a ∙ sym (pow-zero (a ^ m))
pow_mul a m (suc n) = ap (λ (x : ℕ). a ^ x) (mul-suc m n) ∙ pow-add a (m * n) m ∙ ap (λ (x : ℕ). x * a ^ m) (pow_mul a m n) ∙ sym (pow-suc (a ^ m) n)

-- a set of n connections fits its bytes
set_fits : (t : Table) (s : ℕ) → only_open t s ≡ true → s < 256 ^ set_size (length t.connections)
set_fits t s e =
    let n : ℕ = length t.connections in
    let m : s < 2 ^ n = ltb-true s (2 ^ n) (and_left (ltb s (2 ^ n)) _ e) in
    let h : n ≤ 8 * set_size n = omega arith in
    let p : 2 ^ n ≤ 2 ^ (8 * set_size n) = pow_mono h in
    let q : 2 ^ (8 * set_size n) ≡ 256 ^ set_size n = pow_mul 2 8 (set_size n) in
    omega arith

-- ---- rows

-- the texts of a job, live or free, and those of its numbers that its row's own rule bounds
record PlaceFits (j : Job) : Type 0 where
  pub range : RangeFits j.row
  pub unique : TextFits 64 j.unique
  pub numerator : TextFits 10 j.numerator
  pub denominator : TextFits 10 j.denominator

module _ (t : Table) (fs : length t.functions ≡ function_count) (cs : length t.connections ≤ 256) where
  place_fits : (j : Job) (b : Bool) → live j.row ≡ b
      → implies b (text_within unique_size j.unique && (stored_number j.numerator && stored_number j.denominator)) ≡ true
      → cond b (row_has_meaning t j) (row_is_free j) ≡ true → PlaceFits j
  place_fits j true l x m =
      let x2 = and_right (text_within unique_size j.unique) _ x in
      record {
        range = range_fits (length t.functions) (length t.connections) (omega arith) cs j.row m;
        unique = text_fits 64 j.unique (and_left (text_within unique_size j.unique) _ x);
        numerator = number_fits j.numerator (and_left (stored_number j.numerator) (stored_number j.denominator) x2);
        denominator = number_fits j.denominator (and_right (stored_number j.numerator) (stored_number j.denominator) x2);
      }
  place_fits j false l x m =
      let texts = and_right (numbers_free j.row) _ m in
      let numbers = and_right (same j.unique []) _ texts in
      record {
        range = subst RangeFits (sym (free_row_lem j.row l (and_left (numbers_free j.row) _ m))) free_fits;
        unique = none_fits 64 j.unique (and_left (same j.unique []) _ texts);
        numerator = none_fits 10 j.numerator (and_left (same j.numerator []) (same j.denominator []) numbers);
        denominator = none_fits 10 j.denominator (and_right (same j.numerator []) (same j.denominator []) numbers);
      }

-- ---- the table

pub obeys_fitting : (t : Table) → length t.functions ≡ function_count → length t.jobs ≡ job_count → length t.ids ≡ length t.connections → length t.connections ≤ 256 → obeys t ≡ true → Fitting t
unfolding obeys
obeys_fitting t fs js is cs e =
    let e2 = and_right (next_small t) _ e in
    let e3 = and_right (serials_below t) _ e2 in
    let e4 = and_right (serials_distinct t) _ e3 in
    let e5 = and_right (names_within t) _ e4 in
    let e6 = and_right (texts_within t) _ e5 in
    let e7 = and_right (sizes_within t) _ e6 in
    let e8 = and_right (rows_have_meaning t) _ e7 in
    let e9 = and_right (functions_distinct t) _ e8 in
    let e10 = and_right (functions_as_defined t) _ e9 in
    let e11 = and_right (abilities_open t) _ e10 in
    let e12 = and_right (listeners_open t) _ e11 in
    let e13 = and_right (holders_open t) _ e12 in
    let e14 = and_right (closed_clear t) _ e13 in
    let e15 = and_right (queued_awaited t) _ e14 in
    let e16 = and_right (uniques_distinct t) _ e15 in
    let e17 = and_right (sleepers_idle t) _ e16 in
    let small : t.last < 4294967296 = ltb-true _ _ (and_left (next_small t) _ e) in
    let below = and_left (serials_below t) _ e2 in
    let names = and_left (names_within t) _ e4 in
    let texts = and_left (texts_within t) _ e5 in
    let sizes = and_left (sizes_within t) _ e6 in
    let rows = and_left (rows_have_meaning t) _ e7 in
    let abilities = and_left (abilities_open t) _ e10 in
    let hearers = and_left (listeners_open t) _ e11 in
    let ids = and_left (ids_within t) _ e17 in
    let e18 = and_right (ids_within t) _ e17 in
    let hub = and_right (ids_open t) _ e18 in
    record {
      sixteen = fs;
      thirty_two = js;
      one_each = is;
      last = small;
      hub = record { within = omega (arith, hub_most_lem t.hub hub); clean = hub_zero_free t.hub hub };
      ids = λ c h. text_fits id_size (id_at t c) (all_at (text_within id_size) t.ids c [] ids (rw is h));
      functions = λ q h.
          let i : q < length t.functions = rw fs h in
          record {
            able = set_fits t (function_at t q).able (all_at (λ x. only_open t x.able) t.functions q no_function abilities i);
            name = text_fits 32 (function_at t q).name (all_at (λ x. text_within name_size x.name) t.functions q no_function names i);
          };
      jobs = λ p h.
          let i : p < length t.jobs = rw js h in
          let j = job_at t p in
          let r = place_fits t fs cs j (live j.row) refl
          (all_at (λ j. implies (live j.row) (text_within unique_size j.unique && (stored_number j.numerator && stored_number j.denominator))) t.jobs p no_job texts i)
          (all_at (λ j. cond (live j.row) (row_has_meaning t j) (row_is_free j)) t.jobs p no_job rows i) in
          let s : j.row.serial ≤ t.last = leb-true _ _ (all_at (λ j. leb j.row.serial t.last) t.jobs p no_job below i) in
          let z : together t j ≤ 1022 = leb-true _ _ (all_at (λ j. leb (together t j) 1022) t.jobs p no_job sizes i) in
          record {
            row =
                record {
                  serial = omega arith;
                  listeners = set_fits t j.row.listeners (all_at (λ j. only_open t j.row.listeners) t.jobs p no_job hearers i);
                  size = omega arith;
                  range = r.range;
                };
            unique = r.unique;
            numerator = r.numerator;
            denominator = r.denominator;
          };
    }
