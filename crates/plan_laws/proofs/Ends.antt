-- What the end of an event does to a table, place by place: a connection wakes or sleeps on, a function is forgotten or stays. And who
-- wakes and what is forgotten where one job, one connection or one function of a table that obeys the rules is changed. Assumes nothing.
use Prim.Native.Nat.{ℕ, ◌<◌}
use Rattle.std.specs.Prelude.{Option, Some, None}
use mathlib.Core.Path.{◌≡◌, refl, ap, sym, ◌∙◌, subst}
use mathlib.Core.Bool.{Bool, true, false, not, cond, ◌&&◌, ◌||◌}
use mathlib.Core.List.{List}
use native.Mathlib.Decide.{ℕ_discrete}
use borrow.Author.Tests.{eq-eqb, eqb-true}
use lib.ListN.{length, get_or, set, length-set}
use lib.Seq.{get_or-set_same, get_or-set_other, ext_get_or}
use Rattle.octets.specs.Bytes.{Bytes}
use Rattle.octets.proofs.Strings.{and_left, and_right, and_both, and_false}
use Rattle.sets.specs.Sets.{has, is_empty, members}
use Rattle.sets.proofs.Laws.{zero_has}
use Rattle.lists.specs.Lists.{any, map_from, implies}
use Rattle.lists.proofs.Cases.{cond_both}
use Rattle.lists.proofs.Maps.{map_set}
use Rattle.lists.proofs.Rows.{clash, never, iff, all_set, any_at, any_where, length_map_from, map_from_at}
use Rattle.server.specs.declared.Connection.{Connection}
use Rattle.server.specs.declared.JobRow.{JobRow}
use Rattle.server.specs.Table.{Function, Job, Table, closed, no_row, no_function, connection_at, function_at, job_at, rows_of, ables_of, queued, names, wanted, able, grabbable, with_connections, with_ids, with_functions, set_connection, set_job}
use Rattle.server.specs.Events.{dropped, wakes, awake, woken_in, woken, forgot, to_wake_in, to_wake}
use Rattle.server.specs.Rules.{queued_awaited}
use Rattle.server_laws.proofs.Numbers.{row_at, able_at_lem, rows_long, row_passes, row_where}
use Rattle.server_laws.proofs.Obeyed.{Obeyed}
use Rattle.server_laws.proofs.AtRest.{drops_none, forgets_none, sleeps_on, choose_same}
use Rattle.server_laws.proofs.Settled.{rouse, forgot_at}
use Rattle.plan.specs.declared.Ending.{Ending}
use Rattle.plan.specs.Steps.{waits, without, ended}
use Rattle.plan_settle.proofs.Sleepers.{members_filter}

-- ---- the end of an event

-- the function at place q, or an empty place if nobody wants it
abbrev pub kept : Table → ℕ → Function
kept u q = cond (wanted (rows_of u) q (function_at u q).able) (function_at u q) no_function

-- u is the table after an event's step, and e its ending
pub record Settles (u : Table) (e : Ending) : Type 0 where
  pub awaited : queued_awaited u ≡ true
  pub rouses : (c : ℕ) → c < length u.connections → wakes (ables_of u) (rows_of u) c (connection_at u c) ≡ has e.woken c
  pub keeps : (q : ℕ) → q < length u.functions → kept u q ≡ get_or (without e.forgotten u.functions) q no_function

length_without : (o : Option ℕ) (fs : List Function) → length (without o fs) ≡ length fs
length_without None fs = refl
length_without (Some q) fs = length-set fs q no_function

module _ (u : Table) (e : Ending) (s : Settles u e) where
  abbrev roused : ℕ → Connection → Connection
  roused c x = cond (has e.woken c) (awake x) x

  connections_left : map_from (rouse u) 0 u.connections ≡ map_from roused 0 u.connections
  connections_left =
      let l = length_map_from (rouse u) 0 u.connections in
      ext_get_or closed (map_from (rouse u) 0 u.connections) (map_from roused 0 u.connections) (l ∙ sym (length_map_from roused 0 u.connections))
      (λ c h. map_from_at (rouse u) closed (λ i. refl) u.connections c
      ∙ ap (λ (b : Bool). cond b (awake (connection_at u c)) (connection_at u c)) (s.rouses c (rw l at h))
      ∙ sym (map_from_at roused closed (λ i. cond_both (λ (x : Connection). x ≡ closed) (has e.woken i) refl refl) u.connections c))

  functions_left : (forgot u).functions ≡ without e.forgotten u.functions
  unfolding forgot
  functions_left =
      let l = length_map_from (λ q x. cond (wanted (rows_of u) q x.able) x no_function) 0 u.functions in
      ext_get_or no_function (forgot u).functions (without e.forgotten u.functions) (l ∙ sym (length_without e.forgotten u.functions))
      (λ q h. forgot_at u q ∙ s.keeps q (rw l at h))

  pub settles : forgot (woken (dropped u)) ≡ ended e u
  unfolding forgot woken_in ended
  settles =
      ap (λ (x : Table). forgot (woken x)) (drops_none u s.awaited)
      ∙ (λ i. with_connections (connections_left i) (with_functions (functions_left i) u))

  pub wakes_members : to_wake (dropped u) ≡ members (length u.connections) e.woken
  unfolding to_wake_in
  wakes_members =
      ap (λ (x : Table). to_wake x) (drops_none u s.awaited) ∙ choose_same _ (has e.woken) (length u.connections) s.rouses
      ∙ sym (members_filter (length u.connections) e.woken)

-- ---- some row, with one changed

any_set_less : {A : Type 0} (f : A → Bool) (l : List A) (i : ℕ) (y d : A) → i < length l → (f y ≡ true → f (get_or l i d) ≡ true) → any f (set l i y) ≡ true → any f l ≡ true
any_set_less f l i y d h g e = let (k, m, q) = any_where f (set l i y) d e in go k (rw length-set at m) (ℕ_discrete k i) q
  where
    go : (k : ℕ) → k < length l → Dec (k ≡ i) → f (get_or (set l i y) k d) ≡ true → any f l ≡ true
    go k m (yes r) q =
        any_at f l i d h (g (subst (λ (x : _). f x ≡ true) (ap (λ (n : ℕ). get_or (set l i y) n d) r ∙ get_or-set_same l i y d h) q))
    go k m (no r) q = any_at f l k d m (rw (get_or-set_other l i k y d r) at q)

-- k is grabbable only if j was
abbrev pub NoMore : Job → Job → Type 0
NoMore j k = (ables : List ℕ) (c : ℕ) → grabbable ables c k.row ≡ true → grabbable ables c j.row ≡ true

-- it is not lost
abbrev pub Awaited : JobRow → Type 0
Awaited r = implies (queued r) (r.background || not (is_empty r.listeners)) ≡ true

-- ---- what one change does to a table that obeys the rules

module _ (t : Table) (o : Obeyed t) where
  -- each function is wanted, or its place is empty
  stays : (q : ℕ) → kept t q ≡ function_at t q
  stays q = sym (forgot_at t q) ∙ ap (λ (x : Table). function_at x q) (forgets_none t o.defined)

  -- who slept if it sleeps now, and can grab no more than before, sleeps on
  sleeps : (u : Table) (c : ℕ) → c < length t.connections → ((connection_at u c).asleep ≡ true → (connection_at t c).asleep ≡ true)
      → (any (grabbable (ables_of u) c) (rows_of u) ≡ true → any (grabbable (ables_of t) c) (rows_of t) ≡ true)
      → wakes (ables_of u) (rows_of u) c (connection_at u c) ≡ has 0 c
  sleeps u c l a g =
      never _ (λ e. clash (and_both (connection_at t c).asleep _ (a (and_left (connection_at u c).asleep _ e)) (g (and_right (connection_at u c).asleep _ e))) (sleeps_on t o.idle c l))
      ∙ sym (zero_has c)

  -- a function stays while jobs name it as before
  pub all_kept : (rs : List JobRow) (q : ℕ) → any (names q) rs ≡ any (names q) (rows_of t)
      → cond (wanted rs q (function_at t q).able) (function_at t q) no_function ≡ function_at t q
  all_kept rs q e = ap (λ (b : Bool). cond (not (is_empty (function_at t q).able) || b) (function_at t q) no_function) e ∙ stays q

  -- ---- nothing

  -- but client ids
  pub nothing_settles : (is : List Bytes) → Settles (with_ids is t) (record { woken = 0; forgotten = None })
  nothing_settles is =
      record { awaited = o.awaited; rouses = λ c l. sleeps (with_ids is t) c l (λ e. e) (λ e. e); keeps = λ q h. all_kept (rows_of t) q refl }

  -- ---- one job, which is no more grabbable than before; and a connection may stop sleeping

  pub job_settles : (cs : List Connection) (p : ℕ) (k : Job) (place : Option ℕ) → length cs ≡ length t.connections
      → ((c : ℕ) → (get_or cs c closed).asleep ≡ true → (connection_at t c).asleep ≡ true)
      → p < length t.jobs → NoMore (job_at t p) k → Awaited k.row
      → ((q : ℕ) → cond (wanted (set (rows_of t) p k.row) q (function_at t q).able) (function_at t q) no_function ≡ get_or (without place t.functions) q no_function)
      → Settles (with_connections cs (set_job t p k)) (record { woken = 0; forgotten = place })
  job_settles cs p k place long awake inside m a f =
      record {
        awaited = all_set (λ j. implies (queued j.row) (j.row.background || not (is_empty j.row.listeners))) t.jobs p k o.awaited a;
        rouses = λ c l. sleeps (with_connections cs (set_job t p k)) c (rw long at l) (awake c)
            (λ g. any_set_less (grabbable (ables_of t) c) (rows_of t) p k.row no_row (rw (rows_long t) inside) (λ e. rw (row_at t p) (m (ables_of t) c e)) (rw rows at g));
        keeps = λ q h. rw rows (f q);
      }
    where
      rows : rows_of (set_job t p k) ≡ set (rows_of t) p k.row
      rows = map_set (λ (j : Job). j.row) t.jobs p k

  -- ---- one connection

  module _ (c : ℕ) (x : Connection) (woken' : ℕ)
      (own : x.asleep && any (grabbable (ables_of t) c) (rows_of t) ≡ has woken' c) (others : (k : ℕ) → ¬ (k ≡ c) → has woken' k ≡ false) where
    pub connection_settles : Settles (set_connection t c x) (record { woken = woken'; forgotten = None })
    connection_settles =
        record {
          awaited = o.awaited;
          rouses = λ k l. go k (rw length-set at l) (ℕ_discrete k c);
          keeps = λ q h. all_kept (rows_of t) q refl;
        }
      where
        go : (k : ℕ) → k < length t.connections → Dec (k ≡ c) → wakes (ables_of t) (rows_of t) k (get_or (set t.connections c x) k closed) ≡ has woken' k
        go k l (yes e) = rw (e, get_or-set_same t.connections c x closed (subst (λ (n : ℕ). n < length t.connections) e l)) own
        go k l (no d) = rw (get_or-set_other t.connections c k x closed d) (sleeps_on t o.idle k l ∙ sym (others k d))

  -- ---- one function of table u: the others are as before

  module _ (u : Table) (q : ℕ) (here : q < length u.functions) (others : (k : ℕ) → ¬ (k ≡ q) → function_at u k ≡ function_at t k) where
    -- and so are the jobs that name them: only the one at q may be forgotten
    pub one_kept : ((k : ℕ) → ¬ (k ≡ q) → any (names k) (rows_of u) ≡ any (names k) (rows_of t))
        → (b : Bool) → wanted (rows_of u) q (function_at u q).able ≡ b → (k : ℕ) → kept u k ≡ get_or (without (cond b None (Some q)) u.functions) k no_function
    one_kept named b w k = go (ℕ_discrete k q) b w
      where
        elsewhere : ¬ (k ≡ q) → kept u k ≡ function_at u k
        elsewhere d = rw (others k d) (all_kept (rows_of u) k (named k d))

        go : Dec (k ≡ q) → (b : Bool) → wanted (rows_of u) q (function_at u q).able ≡ b → kept u k ≡ get_or (without (cond b None (Some q)) u.functions) k no_function
        go (yes e) true w = rw (e, w)
        go (yes e) false w = rw (e, w) (sym (get_or-set_same u.functions q no_function no_function here))
        go (no d) true w = elsewhere d
        go (no d) false w = elsewhere d ∙ sym (get_or-set_other u.functions q k no_function no_function d)

    -- and so are the jobs of other functions: a sleeper can grab a job only of the one at q
    module _ (jobs : (i : ℕ) → i < length u.jobs → ¬ ((job_at u i).row.function ≡ q) → (i < length t.jobs) × (job_at u i ≡ job_at t i)) where
      module _ (c : ℕ) (inside : c < length t.connections) (asleep : (connection_at t c).asleep ≡ true) where
        only : (i : ℕ) → i < length u.jobs → grabbable (ables_of u) c (job_at u i).row ≡ true → (job_at u i).row.function ≡ q
        only i l g = go (ℕ_discrete (job_at u i).row.function q)
          where
            go : Dec ((job_at u i).row.function ≡ q) → (job_at u i).row.function ≡ q
            go (yes e) = e
            go (no d) =
                let (m, k) = jobs i l d in
                let a : grabbable (ables_of t) c (job_at u i).row ≡ true
                = rw (able_at_lem t (job_at u i).row.function, ← (others (job_at u i).row.function d), ← (able_at_lem u (job_at u i).row.function)) g in
                clash (and_both (connection_at t c).asleep _ asleep (row_passes t (grabbable (ables_of t) c) i m (rw k at a))) (sleeps_on t o.idle c inside)

        work_of_lem : any (grabbable (ables_of u) c) (rows_of u) ≡ any (waits q) (rows_of u) && able (ables_of u) q c
        work_of_lem = iff _ _ there back
          where
            there : any (grabbable (ables_of u) c) (rows_of u) ≡ true → any (waits q) (rows_of u) && able (ables_of u) q c ≡ true
            there e =
                let (i, l, g) = row_where u (grabbable (ables_of u) c) e in
                let f : (job_at u i).row.function ≡ q = only i l g in
                and_both (any (waits q) (rows_of u)) _
                (row_passes u (waits q) i l (and_both (queued (job_at u i).row) _ (and_left (queued (job_at u i).row) _ g) (eq-eqb (job_at u i).row.function q f)))
                (subst (λ (n : ℕ). able (ables_of u) n c ≡ true) f (and_right (queued (job_at u i).row) _ g))

            back : any (waits q) (rows_of u) && able (ables_of u) q c ≡ true → any (grabbable (ables_of u) c) (rows_of u) ≡ true
            back e =
                let (i, l, w) = row_where u (waits q) (and_left (any (waits q) (rows_of u)) _ e) in
                row_passes u (grabbable (ables_of u) c) i l
                (and_both (queued (job_at u i).row) _ (and_left (queued (job_at u i).row) _ w)
                (subst (λ (n : ℕ). able (ables_of u) n c ≡ true) (sym (eqb-true (job_at u i).row.function q (and_right (queued (job_at u i).row) _ w))) (and_right (any (waits q) (rows_of u)) _ e)))

      -- so the sleepers that wake are those able to do it, if a job of it waits
      pub one_rouses : (woken' : ℕ) (b : Bool) → any (waits q) (rows_of u) ≡ b → ((c : ℕ) → has woken' c ≡ b && ((connection_at t c).asleep && able (ables_of u) q c))
          → (c : ℕ) → c < length t.connections → wakes (ables_of u) (rows_of u) c (connection_at t c) ≡ has woken' c
      one_rouses woken' b e h c l = go (connection_at t c).asleep refl
        where
          go : (a : Bool) → (connection_at t c).asleep ≡ a → (connection_at t c).asleep && any (grabbable (ables_of u) c) (rows_of u) ≡ has woken' c
          go true s = rw (s, work_of_lem c l s, e) (sym (h c ∙ ap (λ (a : Bool). b && (a && able (ables_of u) q c)) s))
          go false s = rw s (sym (h c ∙ ap (λ (a : Bool). b && (a && able (ables_of u) q c)) s ∙ and_false b))
