-- Settling a table that obeys the rules does nothing: nobody is woken, no job is dropped and no function forgotten. So an event that
-- changes nothing has no effect at its end. Assumes nothing.
use Prim.Native.Nat.{ℕ, zero, suc, ◌+◌, ◌<◌, zero-le, suc-le-suc}
use mathlib.Core.Path.{◌≡◌, refl, ap, ap₂, sym, ◌∙◌, subst}
use mathlib.Core.Bool.{Bool, true, false, not, cond, ◌&&◌, ◌||◌}
use mathlib.Core.List.{List, [], ◌∷◌, map, append-nil}
use native.Mathlib.Nat.{zero-add, le_of_suc-le-suc, not-suc-le-zero}
use native.Mathlib.Omega.{arith}
use borrow.Author.Tests.{not-true, not-false, eqb-true}
use lib.ListN.{length, get_or}
use Rattle.octets.specs.Bytes.{same}
use Rattle.octets.proofs.Strings.{and_left, and_right, same_is}
use Rattle.sets.specs.Sets.{is_empty}
use Rattle.server.specs.declared.Connection.{Connection}
use Rattle.server.specs.declared.JobRow.{JobRow}
use Rattle.lists.specs.Lists.{any, all, filter, map_from, numbers, implies}
use Rattle.server.specs.Table.{Function, Job, Table, closed, no_function, connection_at, rows_of, ables_of, queued, wanted, grabbable, with_connections, with_functions, with_jobs}
use Rattle.server.specs.Events.{Send, Decision, settle, unless_lost, dropped, wakes, awake, woken_in, woken, to_wake_in, to_wake, forgot}
use Rattle.server.specs.Rules.{is_known, as_defined, functions_as_defined, queued_awaited, sleeper_idle, sleepers_idle_from, sleepers_idle, obeys}
use Rattle.lists.proofs.Rows.{clash, or_false}
use Rattle.server_laws.proofs.Obeyed.{obeyed}

-- ---- no job is dropped

pub awaited_kept : (a b c : Bool) → implies a (b || not c) ≡ true → a && (not b && c) ≡ false
awaited_kept true true c e = refl
awaited_kept true false true e = clash refl (sym e)
awaited_kept true false false e = refl
awaited_kept false b c e = refl

rows_stay : (js : List Job) → all (λ j. implies (queued j.row) (j.row.background || not (is_empty j.row.listeners))) js ≡ true → map unless_lost js ≡ js
rows_stay [] e = refl
rows_stay (j ∷ js) e =
    let k = awaited_kept (queued j.row) j.row.background (is_empty j.row.listeners) (and_left (implies (queued j.row) (j.row.background || not (is_empty j.row.listeners))) _ e) in
    ap₂ {C = List Job} (λ (x : Job) (l : List Job). x ∷ l) (rw k) (rows_stay js (and_right (implies (queued j.row) (j.row.background || not (is_empty j.row.listeners))) _ e))

pub drops_none : (t : Table) → queued_awaited t ≡ true → dropped t ≡ t
unfolding dropped
drops_none t e = ap (λ (js : List Job). with_jobs js t) (rows_stay t.jobs e)

-- ---- nobody is woken

idle_asleep : (a b : Bool) → implies a (not b) ≡ true → a && b ≡ false
idle_asleep true b e = not-true b e
idle_asleep false b e = refl

not_woken : (t : Table) (c : ℕ) (x : Connection) → sleeper_idle t c x ≡ true → wakes (ables_of t) (rows_of t) c x ≡ false
not_woken t c x e = idle_asleep x.asleep (any (grabbable (ables_of t) c) (rows_of t)) e

all_sleep_on : (t : Table) (i : ℕ) (cs : List Connection) → sleepers_idle_from t i cs ≡ true → map_from (λ c x. cond (wakes (ables_of t) (rows_of t) c x) (awake x) x) i cs ≡ cs
all_sleep_on t i [] e = refl
all_sleep_on t i (x ∷ cs) e =
    let w = not_woken t i x (and_left (sleeper_idle t i x) _ e) in
    ap₂ {C = List Connection} (λ (y : Connection) (l : List Connection). y ∷ l) (rw w) (all_sleep_on t (suc i) cs (and_right (sleeper_idle t i x) _ e))

pub connections_stay : (t : Table) → sleepers_idle t ≡ true → woken_in (ables_of t) (rows_of t) t.connections ≡ t.connections
unfolding woken_in
connections_stay t e = all_sleep_on t 0 t.connections e

pub wakes_nobody : (t : Table) → sleepers_idle t ≡ true → woken t ≡ t
wakes_nobody t e = ap (λ (cs : List Connection). with_connections cs t) (connections_stay t e)

-- a sleeper has no grabbable job, by its number
idle_from_at : (t : Table) (i : ℕ) (cs : List Connection) (k : ℕ) → sleepers_idle_from t i cs ≡ true → k < length cs → sleeper_idle t (i + k) (get_or cs k closed) ≡ true
idle_from_at t i [] k e l = absurd (not-suc-le-zero l)
idle_from_at t i (x ∷ cs) zero e l = subst (λ (n : ℕ). sleeper_idle t n x ≡ true) (omega arith) (and_left (sleeper_idle t i x) _ e)
idle_from_at t i (x ∷ cs) (suc k) e l =
    subst (λ (n : ℕ). sleeper_idle t n (get_or cs k closed) ≡ true) (omega arith) (idle_from_at t (suc i) cs k (and_right (sleeper_idle t i x) _ e) (le_of_suc-le-suc l))

pub idle_at : (t : Table) → sleepers_idle t ≡ true → (c : ℕ) → c < length t.connections → sleeper_idle t c (connection_at t c) ≡ true
idle_at t e c l = subst (λ (n : ℕ). sleeper_idle t n (connection_at t c) ≡ true) (zero-add c) (idle_from_at t 0 t.connections c e l)

pub sleeps_on : (t : Table) → sleepers_idle t ≡ true → (c : ℕ) → c < length t.connections → wakes (ables_of t) (rows_of t) c (connection_at t c) ≡ false
sleeps_on t e c l = not_woken t c (connection_at t c) (idle_at t e c l)

-- ---- the numbers that pass a test

pub filter_same : (p q : ℕ → Bool) (i n : ℕ) → ((k : ℕ) → k < n → p (i + k) ≡ q (i + k)) → filter p (numbers i n) ≡ filter q (numbers i n)
filter_same p q i zero f = refl
filter_same p q i (suc n) f =
    let e : p i ≡ q i = subst (λ (m : ℕ). p m ≡ q m) (omega arith) (f 0 (suc-le-suc zero-le)) in
    let r : filter p (numbers (suc i) n) ≡ filter q (numbers (suc i) n) = filter_same p q (suc i) n (λ k l. subst (λ (m : ℕ). p m ≡ q m) (omega arith) (f (suc k) (suc-le-suc l))) in
    rw (e, r)

-- two tests that agree below n choose the same numbers
pub choose_same : (p q : ℕ → Bool) (n : ℕ) → ((k : ℕ) → k < n → p k ≡ q k) → filter p (numbers 0 n) ≡ filter q (numbers 0 n)
choose_same p q n f = filter_same p q 0 n (λ k l. subst (λ (m : ℕ). p m ≡ q m) (sym (zero-add k)) (f k l))

pub choose_none : (i n : ℕ) → filter (λ k. false) (numbers i n) ≡ []
choose_none i zero = refl
choose_none i (suc n) = choose_none (suc i) n

pub none_to_wake : (t : Table) → sleepers_idle t ≡ true → to_wake t ≡ []
unfolding to_wake_in
none_to_wake t e = choose_same _ (λ k. false) (length t.connections) (sleeps_on t e) ∙ choose_none 0 (length t.connections)

-- ---- no function is forgotten

-- a place without a name that nobody wants is empty already
unwanted : (rs : List JobRow) (q : ℕ) (x : Function) → same x.name [] ≡ true → wanted rs q x.able ≡ false → x ≡ no_function
unwanted rs q x n w =
    let a : x.name ≡ [] = same_is _ [] n in
    let b : x.able ≡ 0 = eqb-true _ 0 (not-false _ (or_false (not (is_empty x.able)) _ w).0) in
    λ i. record { name = a i; able = b i }

place_stays : (rs : List JobRow) (q : ℕ) (x : Function) → cond (is_known x) (wanted rs q x.able) (not (wanted rs q x.able)) ≡ true → cond (wanted rs q x.able) x no_function ≡ x
place_stays rs q x e = go (same x.name []) (wanted rs q x.able) refl refl e
  where
    go : (b w : Bool) → same x.name [] ≡ b → wanted rs q x.able ≡ w → cond (not b) w (not w) ≡ true → cond w x no_function ≡ x
    go b true n v d = refl
    go true false n v d = sym (unwanted rs q x n v)
    go false false n v d = clash refl (sym d)

places_stay : (rs : List JobRow) (i : ℕ) (fs : List Function) → as_defined rs i fs ≡ true → map_from (λ q x. cond (wanted rs q x.able) x no_function) i fs ≡ fs
places_stay rs i [] e = refl
places_stay rs i (x ∷ fs) e =
    ap₂ {C = List Function} (λ (y : Function) (l : List Function). y ∷ l)
    (place_stays rs i x (and_left (cond (is_known x) (wanted rs i x.able) (not (wanted rs i x.able))) _ e))
    (places_stay rs (suc i) fs (and_right (cond (is_known x) (wanted rs i x.able) (not (wanted rs i x.able))) _ e))

pub forgets_none : (t : Table) → functions_as_defined t ≡ true → forgot t ≡ t
unfolding forgot
forgets_none t e = ap (λ (fs : List Function). with_functions fs t) (places_stay (rows_of t) 0 t.functions e)

-- ---- all together

abbrev pub done : List Send → Table → Decision
done ss t = record { number = 0; packets = ss; table = t }

pub settle_idle : (ss : List Send) (t : Table) → functions_as_defined t ≡ true → queued_awaited t ≡ true → sleepers_idle t ≡ true → settle ss t ≡ done ss t
unfolding settle
settle_idle ss t d a i = rw (drops_none t a, none_to_wake t i, wakes_nobody t i, forgets_none t d, append-nil)

-- an event that changes nothing wakes nobody and drops nothing
pub settle_nothing : (ss : List Send) (t : Table) → obeys t ≡ true → settle ss t ≡ done ss t
settle_nothing ss t h = let o = obeyed t h in settle_idle ss t o.defined o.awaited o.idle
