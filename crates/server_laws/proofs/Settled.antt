-- The end of an event makes the last three rules true: a settled table obeys all of them if it was sound before. Assumes nothing.
use Prim.Native.Nat.{ℕ, suc, ◌+◌, ◌<◌, zero-le, suc-le-suc}
use mathlib.Core.Path.{◌≡◌, refl, ap, sym, ◌∙◌, subst}
use mathlib.Core.Bool.{Bool, true, false, not, cond, ◌&&◌, ◌||◌}
use mathlib.Core.List.{List, [], ◌∷◌}
use native.Mathlib.Nat.{zero-add}
use native.Mathlib.Omega.{arith}
use borrow.Author.Tests.{eq-eqb, eqb-true}
use lib.ListN.{length, get_or}
use Rattle.octets.specs.Bytes.{same, first_zero}
use Rattle.octets.proofs.Strings.{and_left, and_right, and_both}
use Rattle.sets.specs.Sets.{has, is_empty}
use Rattle.sets.proofs.Laws.{zero_has}
use Rattle.server.specs.declared.Connection.{Connection}
use Rattle.server.specs.declared.JobRow.{JobRow}
use Rattle.lists.specs.Lists.{any, implies}
use Rattle.server.specs.Sizes.{name_size}
use Rattle.server.specs.Table.{Function, Job, Table, closed, no_function, connection_at, function_at, job_at, rows_of, ables_of, no_row, live, queued, able, names, wanted, grabbable}
use Rattle.server.specs.Events.{lost, unless_lost, dropped, wakes, awake, woken_in, woken, forgot}
use Rattle.server.specs.Rules.{text_within, is_known, names_apart, as_defined, functions_as_defined, is_open, only_open, queued_awaited, sleeper_idle, sleepers_idle_from, sleepers_idle}
use Rattle.lists.proofs.Cases.{cond_both, cond_cases, All2, all2_map, all2_at}
use Rattle.lists.proofs.Rows.{clash, never, implies_by, implies_use, or_right, or_false, all_row, all_imp, all_made, all_kept, pairwise_kept, any_at, any_imp, any_where, length_map_from, map_from_at, all2_map_from}
use Rattle.server_laws.proofs.Numbers.{row_at, able_at_lem, rows_long}
use Rattle.server_laws.proofs.Openness.{none_open, open_more, holder_more, bearers_more}
use Rattle.server_laws.proofs.Sound.{Sound, sound_connections, sound_functions}
use Rattle.server_laws.proofs.Jobs.{Goes, over, on, sound_jobs, either}
use Rattle.server_laws.proofs.Functions.{job_known}
use Rattle.server_laws.proofs.Going.{still_same}

-- ---- lost jobs are dropped

pub sound_dropped : (t : Table) → Sound t → Sound (dropped t)
unfolding dropped
sound_dropped t h = sound_jobs t (all2_map (Goes t) unless_lost (λ j. cond_both (Goes t j) (lost j.row) over (on (still_same t j))) t.jobs) h

-- a job that is not lost is not queued, or background, or has a listener
kept_awaited : (a b c : Bool) → a && (not b && c) ≡ false → implies a (b || not c) ≡ true
kept_awaited true true c e = refl
kept_awaited true false true e = clash refl e
kept_awaited true false false e = refl
kept_awaited false b c e = refl

pub dropped_awaited : (t : Table) → queued_awaited (dropped t) ≡ true
unfolding dropped
dropped_awaited t =
    all_made _ unless_lost (λ j. cond_cases (λ (k : Job). implies (queued k.row) (k.row.background || not (is_empty k.row.listeners)) ≡ true) (lost j.row)
    (λ e. refl) (λ e. kept_awaited (queued j.row) j.row.background (is_empty j.row.listeners) e)) t.jobs

-- ---- sleepers are woken

record Woke (x y : Connection) : Type 0 where
  opened : y.opened ≡ x.opened
  clear : implies (x.asleep || x.exceptions) x.opened ≡ true → implies (y.asleep || y.exceptions) y.opened ≡ true

abbrev pub rouse : Table → ℕ → Connection → Connection
rouse t c x = cond (wakes (ables_of t) (rows_of t) c x) (awake x) x

rouse_woke : (t : Table) (c : ℕ) (x : Connection) → Woke x (rouse t c x)
rouse_woke t c x =
    cond_both (Woke x) (wakes (ables_of t) (rows_of t) c x)
    (record { opened = refl; clear = λ e. implies_by x.exceptions x.opened (λ q. implies_use (x.asleep || x.exceptions) x.opened e (or_right x.asleep x.exceptions q)) })
    (record { opened = refl; clear = λ e. e })

pub sound_woken : (t : Table) → Sound t → Sound (woken t)
unfolding woken_in
sound_woken t h =
    let u = woken t in
    let g : All2 Woke t.connections u.connections = all2_map_from Woke (rouse t) (rouse_woke t) 0 t.connections in
    let long = length_map_from (rouse t) 0 t.connections in
    let more : (c : ℕ) → is_open t c ≡ true → is_open u c ≡ true = λ c e. (all2_at {R = Woke} g c closed closed (record { opened = refl; clear = λ q. q })).opened ∙ e in
    sound_connections t u.connections long
    (all_imp _ _ (λ y e. open_more t u long more y.able e) t.functions h.abilities)
    (all_imp _ _ (λ j e. open_more t u long more j.row.listeners e) t.jobs h.listeners)
    (all_imp _ _ (λ j e. holder_more t u more j.row.holder e) t.jobs h.holders)
    (all_kept _ _ (λ x y r e. r.clear e) g h.clear)
    (bearers_more t u long more refl h.bearers)
    h

pub woken_at : (t : Table) (c : ℕ) → connection_at (woken t) c ≡ rouse t c (connection_at t c)
unfolding woken_in
woken_at t c = map_from_at (rouse t) closed (λ i. refl) t.connections c

-- ---- functions that nobody wants are forgotten

data Forgets (x : Function) : Function → Type 0 where
  kept : Forgets x x
  gone : Forgets x no_function

abbrev forget : Table → ℕ → Function → Function
forget t q x = cond (wanted (rows_of t) q x.able) x no_function

pub forgot_at : (t : Table) (q : ℕ) → function_at (forgot t) q ≡ forget t q (function_at t q)
unfolding forgot
forgot_at t q = map_from_at (forget t) no_function (λ i. cond_both (λ (x : Function). x ≡ no_function) (wanted (rows_of t) i no_function.able) refl refl) t.functions q

stays : (t : Table) (q : ℕ) → wanted (rows_of t) q (function_at t q).able ≡ true → function_at (forgot t) q ≡ function_at t q
stays t q e = forgot_at t q ∙ rw e

-- an unfinished job wants its function
pub job_wants : (t : Table) (i : ℕ) (x : Function) → i < length t.jobs → live (job_at t i).row ≡ true → wanted (rows_of t) (job_at t i).row.function x.able ≡ true
job_wants t i x l e =
    or_right (not (is_empty x.able)) _
    (any_at (names (job_at t i).row.function) (rows_of t) i no_row (rw (rows_long t) l) (rw (row_at t i) (and_both (live (job_at t i).row) _ e (eq-eqb (job_at t i).row.function _ refl))))

names_forgot : (x y a b : Function) → Forgets x a → Forgets y b → names_apart x y ≡ true → names_apart a b ≡ true
unfolding same
names_forgot x y a b gone s e = refl
names_forgot x y a b kept gone e = either (same x.name [])
names_forgot x y a b kept kept e = e

pub sound_forgot : (t : Table) → Sound t → Sound (forgot t)
unfolding forgot first_zero
sound_forgot t h =
    let g : All2 Forgets t.functions (forgot t).functions = all2_map_from Forgets (forget t) (λ q x. cond_both (Forgets x) (wanted (rows_of t) q x.able) kept gone) 0 t.functions in
    sound_functions t (forgot t).functions (length_map_from (forget t) 0 t.functions)
    (λ i l e. ap (λ (x : Function). x.name) (stays t (job_at t i).row.function (job_wants t i (function_at t (job_at t i).row.function) l e)))
    (all_kept _ _ (λ x y r. forgets_all (λ (z : Function). text_within name_size z.name ≡ true) r refl) g h.names)
    (pairwise_kept names_apart names_forgot g h.functions)
    (all_kept _ _ (λ x y r. forgets_all (λ (z : Function). only_open t z.able ≡ true) r (none_open t)) g h.abilities)
    (all_kept _ _ (λ x y r. forgets_all (λ (z : Function). implies (not (is_empty z.able)) (is_known z) ≡ true) r refl) g h.ables_known)
    h
  where
    forgets_all : (P : Function → Type 0) {x y : Function} → Forgets x y → P no_function → P x → P y
    forgets_all P kept n p = p
    forgets_all P gone n p = n

-- a wanted place has a name
wanted_known : (t : Table) → Sound t → (q : ℕ) → wanted (rows_of t) q (function_at t q).able ≡ true → is_known (function_at t q) ≡ true
wanted_known t h q e = go (is_empty (function_at t q).able) refl e
  where
    named : not (is_empty (function_at t q).able) ≡ true → is_known (function_at t q) ≡ true
    named w = implies_use (not (is_empty (function_at t q).able)) _ (all_row (λ x. implies (not (is_empty x.able)) (is_known x)) t.functions q no_function h.ables_known refl) w

    go : (b : Bool) → is_empty (function_at t q).able ≡ b → not b || any (names q) (rows_of t) ≡ true → is_known (function_at t q) ≡ true
    go false r w = named (ap not r)
    go true r w =
        let (i, k, m) = any_where (names q) (rows_of t) no_row w in
        let n : names q (job_at t i).row ≡ true = rw (row_at t i) at m in
        let l : i < length t.jobs = rw (rows_long t) at k in
        let f : (job_at t i).row.function ≡ q = eqb-true _ q (and_right (live (job_at t i).row) _ n) in
        rw f at (job_known t h i l (and_left (live (job_at t i).row) _ n))

-- the place is as defined
abbrev pub place_defined : List JobRow → ℕ → Function → Bool
place_defined rs q x = cond (is_known x) (wanted rs q x.able) (not (wanted rs q x.able))

defined_from : (rs : List JobRow) (i : ℕ) (fs : List Function) → ((k : ℕ) → k < length fs → place_defined rs (i + k) (get_or fs k no_function) ≡ true) → as_defined rs i fs ≡ true
defined_from rs i [] f = refl
defined_from rs i (x ∷ fs) f =
    and_both (place_defined rs i x) _ (subst (λ (n : ℕ). place_defined rs n x ≡ true) (omega arith) (f 0 (suc-le-suc zero-le)))
    (defined_from rs (suc i) fs (λ k l. subst (λ (n : ℕ). place_defined rs n (get_or fs k no_function) ≡ true) (omega arith) (f (suc k) (suc-le-suc l))))

forget_defined : (t : Table) → Sound t → (q : ℕ) → place_defined (rows_of t) q (forget t q (function_at t q)) ≡ true
unfolding same
forget_defined t h q =
    cond_cases (λ (x : Function). place_defined (rows_of t) q x ≡ true) (wanted (rows_of t) q (function_at t q).able)
    (λ e. rw (wanted_known t h q e) e)
    (λ e. ap not (or_false (not (is_empty (function_at t q).able)) _ e).1)

pub forgot_defined : (t : Table) → Sound t → functions_as_defined (forgot t) ≡ true
unfolding forgot
forgot_defined t h =
    defined_from (rows_of t) 0 (forgot t).functions (λ k l. subst (λ (n : ℕ). place_defined (rows_of t) n (function_at (forgot t) k) ≡ true) (sym (zero-add k))
    (rw (forgot_at t k) (forget_defined t h k)))

-- ---- no sleeper has a grabbable job

-- forgetting makes nobody able
forgot_able : (t : Table) (q c : ℕ) → able (ables_of (forgot t)) q c ≡ true → able (ables_of t) q c ≡ true
forgot_able t q c e =
    let a : has (function_at (forgot t) q).able c ≡ true = rw (able_at_lem (forgot t) q) at e in
    rw (able_at_lem t q)
    (cond_both (λ (x : Function). has x.able c ≡ true → has (function_at t q).able c ≡ true) (wanted (rows_of t) q (function_at t q).able) (λ g. g) (λ g. clash g (zero_has c))
    (subst (λ (x : Function). has x.able c ≡ true) (forgot_at t q) a))

idle_from : (t : Table) (i : ℕ) (cs : List Connection) → ((k : ℕ) → k < length cs → sleeper_idle t (i + k) (get_or cs k closed) ≡ true) → sleepers_idle_from t i cs ≡ true
idle_from t i [] f = refl
idle_from t i (x ∷ cs) f =
    and_both (sleeper_idle t i x) _ (subst (λ (n : ℕ). sleeper_idle t n x ≡ true) (omega arith) (f 0 (suc-le-suc zero-le)))
    (idle_from t (suc i) cs (λ k l. subst (λ (n : ℕ). sleeper_idle t n (get_or cs k closed) ≡ true) (omega arith) (f (suc k) (suc-le-suc l))))

pub idle_by : (t : Table) → ((k : ℕ) → k < length t.connections → sleeper_idle t k (connection_at t k) ≡ true) → sleepers_idle t ≡ true
idle_by t f = idle_from t 0 t.connections (λ k l. subst (λ (n : ℕ). sleeper_idle t n (connection_at t k) ≡ true) (sym (zero-add k)) (f k l))

-- after waking, a connection that sleeps had no grabbable job
rouse_idle : (t : Table) (c : ℕ) (x : Connection) → sleeper_idle (forgot (woken t)) c (rouse t c x) ≡ true
unfolding forgot woken_in
rouse_idle t c x =
    cond_cases (λ (y : Connection). sleeper_idle (forgot (woken t)) c y ≡ true) (wakes (ables_of t) (rows_of t) c x)
    (λ e. refl)
    (λ e. implies_by x.asleep _ (λ s. ap not (never _ (λ a. clash (and_both x.asleep _ s
    (any_imp (grabbable (ables_of (forgot (woken t))) c) (grabbable (ables_of t) c) still (rows_of t) a)) e))))
  where
    still : (r : JobRow) → grabbable (ables_of (forgot (woken t))) c r ≡ true → grabbable (ables_of t) c r ≡ true
    still r g = and_both (queued r) _ (and_left (queued r) _ g) (forgot_able (woken t) r.function c (and_right (queued r) _ g))

pub settled_idle : (t : Table) → sleepers_idle (forgot (woken t)) ≡ true
unfolding forgot
settled_idle t = idle_by (forgot (woken t)) (λ k l. rw (woken_at t k) (rouse_idle t k (connection_at t k)))
