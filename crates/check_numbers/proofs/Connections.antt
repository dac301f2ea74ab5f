-- The test of the connections is the rules of connections: abilities, listeners, holders, options and sleep only on open ones, and no
-- sleeper with a grabbable job. Assumes nothing.
use Prim.Native.Nat.{ℕ, zero, suc, ◌+◌, ◌-◌, ◌*◌, ◌%◌, ◌<◌, ◌≤◌, ◌^◌}
use mathlib.Core.Path.{◌≡◌, refl, sym, ap, ap₂, ◌∙◌}
use mathlib.Core.Bool.{Bool, true, false, not, ◌&&◌, ◌||◌, true≢false}
use native.Mathlib.Omega.{arith}
use borrow.Author.Tests.{ltb-true, ltb-false, eqb-true, eq-eqb, ne_eqb, lt-ltb}
use lib.ListN.{length, get_or}
use lib.Dec.{eqb, ltb}
use Rattle.octets.specs.Bytes.{Bytes}
use Rattle.octets.proofs.Strings.{and_left, and_right, and_both}
use Rattle.sets.specs.Sets.{has, union}
use Rattle.sets.proofs.Laws.{has_union, has_above}
use Rattle.server.specs.declared.Connection.{Connection}
use Rattle.lists.specs.Lists.{any, all, numbers, implies}
use Rattle.server.specs.Sizes.{connection_count, function_count, job_count}
use Rattle.server.specs.Table.{live}
use Rattle.server.specs.Layout.{little_at, connection_in, function_in, row_in, table_of, listeners_at, opened_at, table_size, able_at}
use Rattle.server.specs.Rules.{is_open, only_open, abilities_open, listeners_open, holder_open, holders_open, closed_clear, sleeper_idle, sleepers_idle}
use Rattle.table_laws.specs.Tests.{are_flags}
use Rattle.lists.proofs.Rows.{below_at, below_by}
use Rattle.table_passes.proofs.Tests.{iff, or_left, or_right, or_cases, some_at, some_by}
use Rattle.table_passes.proofs.Rows.{jobs_all, functions_all, connections_all, connections_length, connection_at_lem, sleepers_all}
use Rattle.table_passes.proofs.Unions.{low_set}
use Rattle.check_image.proofs.Places.{flag_at}
use Rattle.check_rows.specs.Rows.{rows_mean}
use Rattle.check_survey.specs.declared.Survey as S
use Rattle.check_survey.specs.Surveyed.{is_held, held_by, Surveyed}
use Rattle.table_passes.specs.Unions.{Joined}
use Rattle.check_numbers.specs.Numbers.{able_if, connection_holds, connection_rules}
use Rattle.check_numbers.proofs.Functions.{holder_small, held_live, busy_is}

-- ---- one connection: open o, asleep a, with the option e, used u, busy w

abbrev Holds : Bool → Bool → Bool → Bool → Bool → Bool
Holds o a e u w = (not (not o) || ((not a && not e) && not u)) && (not a || not w)

open_if_used : (o a e u w : Bool) → Holds o a e u w ≡ true → u ≡ true → o ≡ true
open_if_used true a e u w h q = refl
open_if_used false true e u w h q = absurd (true≢false (sym h))
open_if_used false false true u w h q = absurd (true≢false (sym h))
open_if_used false false false true w h q = absurd (true≢false (sym h))
open_if_used false false false false w h q = absurd (true≢false (sym q))

clear_if_closed : (o a e u w : Bool) → Holds o a e u w ≡ true → implies (a || e) o ≡ true
clear_if_closed true true e u w h = refl
clear_if_closed true false true u w h = refl
clear_if_closed true false false u w h = refl
clear_if_closed false true e u w h = absurd (true≢false (sym h))
clear_if_closed false false true u w h = absurd (true≢false (sym h))
clear_if_closed false false false u w h = refl

idle_if_asleep : (o a e u w : Bool) → Holds o a e u w ≡ true → implies a (not w) ≡ true
idle_if_asleep o false e u w h = refl
idle_if_asleep o true e u w h = and_right (not (not o) || ((not true && not e) && not u)) (not true || not w) h

holds_by : (o a e u w : Bool) → (u ≡ true → o ≡ true) → implies (a || e) o ≡ true → implies a (not w) ≡ true → Holds o a e u w ≡ true
holds_by true true e u w f g h = h
holds_by true false e u w f g h = refl
holds_by false true e u w f g h = absurd (true≢false (sym g))
holds_by false false true u w f g h = absurd (true≢false (sym g))
holds_by false false false true w f g h = absurd (true≢false (sym (f refl)))
holds_by false false false false w f g h = refl

module _ (b : Bytes) (long : table_size connection_count ≤ length b) (small : (i : ℕ) → get_or b i 0 < 256) (flags : are_flags (3 * connection_count) b (opened_at connection_count) ≡ true) (rows : rows_mean b ≡ true) (v : S.Survey)
    (s : Surveyed b 32 v) (l a used busy : ℕ) (jl : Joined (λ k. little_at 4 b (listeners_at connection_count + 4 * k)) 32 l) (ja : Joined (λ k. little_at 4 b (able_at + 4 * k)) function_count a)
    (ju : used ≡ union (union l a) v.holding) (jb : Joined (able_if b v.queued) function_count busy) (fits : used < 4294967296) where
  -- ---- the union

  used_is : (c : ℕ) → has used c ≡ (any (λ k. has (row_in connection_count b k).listeners c) (numbers 0 job_count) || any (λ q. has (function_in connection_count b q).able c) (numbers 0 function_count)) || any (held_by b c) (numbers 0 job_count)
  used_is c = ap (λ (x : ℕ). has x c) ju ∙ has_union (union l a) v.holding c ∙ ap₂ ◌||◌ (has_union l a c ∙ ap₂ ◌||◌ (jl c) (ja c)) (s.holding c)

  abbrev heard : ℕ → Bool
  heard c = any (λ k. has (row_in connection_count b k).listeners c) (numbers 0 job_count)

  abbrev able_any : ℕ → Bool
  able_any c = any (λ q. has (function_in connection_count b q).able c) (numbers 0 function_count)

  by_listener : (c k : ℕ) → k < job_count → has (row_in connection_count b k).listeners c ≡ true → has used c ≡ true
  by_listener c k h e =
      used_is c ∙ or_left (heard c || able_any c) (any (held_by b c) (numbers 0 job_count)) (or_left (heard c) (able_any c) (some_by (λ k. has (row_in connection_count b k).listeners c) 32 k h e))

  by_able : (c q : ℕ) → q < function_count → has (function_in connection_count b q).able c ≡ true → has used c ≡ true
  by_able c q h e =
      used_is c ∙ or_left (heard c || able_any c) (any (held_by b c) (numbers 0 job_count)) (or_right (heard c) (able_any c) (some_by (λ q. has (function_in connection_count b q).able c) function_count q h e))

  by_holder : (c k : ℕ) → k < job_count → held_by b c k ≡ true → has used c ≡ true
  by_holder c k h e = used_is c ∙ or_right (heard c || able_any c) (any (held_by b c) (numbers 0 job_count)) (some_by (held_by b c) 32 k h e)

  number_small : (at : ℕ) → little_at 4 b at < 4294967296
  unfolding little_at
  number_small at =
      let w = small at in
      let x = small (suc at) in
      let y = small (suc (suc at)) in
      let z = small (suc (suc (suc at))) in
      omega arith

  -- the holder as a row names it is one more than the connection
  holder_held : (k c : ℕ) → k < job_count → (row_in connection_count b k).holder ≡ suc c → held_by b c k ≡ true
  holder_held k c h e =
      let n : (row_in connection_count b k).holder ≡ 0 → ⊥ = λ z. omega arith in
      let t = held_live b rows k h n in
      let m = holder_small b rows k h t in
      let r : ((row_in connection_count b k).holder - 1) % 32 ≡ c = omega arith in
      and_both _ _ (and_both _ _ t (ap not (ne_eqb (row_in connection_count b k).holder 0 n))) (eq-eqb (((row_in connection_count b k).holder - 1) % 32) c r)

  -- ---- the flags of one connection

  flag : (j c : ℕ) → j ≤ 2 * connection_count → c < connection_count → eqb (get_or b (opened_at connection_count + j + c) 0) 0 ≡ not (eqb (get_or b (opened_at connection_count + j + c) 0) 1)
  flag j c g h = let m : opened_at connection_count + (j + c) ≡ opened_at connection_count + j + c = omega arith in rw m at (flag_at (3 * connection_count) b (opened_at connection_count) (omega arith) flags (j + c) (omega arith))

  holds_is : (c : ℕ) → c < connection_count → connection_holds b used busy c ≡ Holds (connection_in connection_count b c).opened (connection_in connection_count b c).asleep (connection_in connection_count b c).exceptions (has used c) (has busy c)
  holds_is c h = rw (flag 0 c (omega arith) h, flag connection_count c (omega arith) h, flag (2 * connection_count) c (omega arith) h)

  -- ---- from the test to the rules

  module _ (low : used < (2 ^ connection_count)) (each : (c : ℕ) → c < connection_count → connection_holds b used busy c ≡ true) where
    at : (c : ℕ) → c < connection_count → Holds (connection_in connection_count b c).opened (connection_in connection_count b c).asleep (connection_in connection_count b c).exceptions (has used c) (has busy c) ≡ true
    at c h = sym (holds_is c h) ∙ each c h

    inside : (c : ℕ) → has used c ≡ true → c < connection_count
    inside c e = go (ltb c connection_count) refl
      where
        go : (t : Bool) → ltb c connection_count ≡ t → c < connection_count
        go true q = ltb-true c connection_count q
        go false q = absurd (true≢false (sym e ∙ has_above used connection_count c low (ltb-false c connection_count q)))

    open_at : (c : ℕ) → has used c ≡ true → is_open (table_of connection_count b) c ≡ true
    open_at c e =
        let h = inside c e in
        ap (λ (x : Connection). x.opened) (connection_at_lem connection_count b c h) ∙ open_if_used (connection_in connection_count b c).opened (connection_in connection_count b c).asleep (connection_in connection_count b c).exceptions (has used c) (has busy c) (at c h) e

    only_open_lem : (x : ℕ) → x < 4294967296 → ((c : ℕ) → has x c ≡ true → has used c ≡ true) → only_open (table_of connection_count b) x ≡ true
    only_open_lem x h f =
        rw (connections_length connection_count b)
        (and_both _ _ (lt-ltb x (2 ^ connection_count) (low_set connection_count x h (λ c g. none c g (has x c) refl))) (below_by (λ c. implies (has x c) (is_open (table_of connection_count b) c)) connection_count (λ c g. member c (has x c) refl)))
      where
        none : (c : ℕ) → connection_count ≤ c → (t : Bool) → has x c ≡ t → t ≡ false
        none c g true e = absurd (omega (arith, inside c (f c e)))
        none c g false e = refl

        member : (c : ℕ) (t : Bool) → has x c ≡ t → implies t (is_open (table_of connection_count b) c) ≡ true
        member c true e = open_at c (f c e)
        member c false e = refl

    holder_open_lem : (k : ℕ) → k < job_count → (x : ℕ) → (row_in connection_count b k).holder ≡ x → holder_open (table_of connection_count b) x ≡ true
    holder_open_lem k h zero e = refl
    holder_open_lem k h (suc c) e = open_at c (by_holder c k h (holder_held k c h e))

    rules_by : connection_rules b ≡ true
    unfolding connection_rules
    rules_by =
        and_both _ _ (functions_all connection_count b (λ x. only_open (table_of connection_count b) x.able) ∙ below_by (λ q. only_open (table_of connection_count b) (function_in connection_count b q).able) function_count
        (λ q h. only_open_lem (function_in connection_count b q).able (number_small (able_at + 4 * q)) (λ c e. by_able c q h e)))
        (and_both _ _ (jobs_all connection_count b (λ j. only_open (table_of connection_count b) j.row.listeners) ∙ below_by (λ k. only_open (table_of connection_count b) (row_in connection_count b k).listeners) 32
        (λ k h. only_open_lem (row_in connection_count b k).listeners (number_small (listeners_at connection_count + 4 * k)) (λ c e. by_listener c k h e)))
        (and_both _ _ (jobs_all connection_count b (λ j. holder_open (table_of connection_count b) j.row.holder) ∙ below_by (λ k. holder_open (table_of connection_count b) (row_in connection_count b k).holder) 32 (λ k h. holder_open_lem k h (row_in connection_count b k).holder refl))
        (and_both _ _ (connections_all connection_count b (λ x. implies (x.asleep || x.exceptions) x.opened) ∙ below_by (λ c. implies ((connection_in connection_count b c).asleep || (connection_in connection_count b c).exceptions) (connection_in connection_count b c).opened) connection_count
        (λ c h. clear_if_closed (connection_in connection_count b c).opened (connection_in connection_count b c).asleep (connection_in connection_count b c).exceptions (has used c) (has busy c) (at c h)))
        (sleepers_all connection_count b ∙ below_by (λ c. sleeper_idle (table_of connection_count b) c (connection_in connection_count b c)) connection_count
        (λ c h. rw (busy_is b rows v s busy jb c) (idle_if_asleep (connection_in connection_count b c).opened (connection_in connection_count b c).asleep (connection_in connection_count b c).exceptions (has used c) (has busy c) (at c h)))))))

  -- ---- from the rules to the test

  -- what a rule says of a member of one of its sets
  member_open : (x c : ℕ) → only_open (table_of connection_count b) x ≡ true → has x c ≡ true → (c < connection_count) × ((connection_in connection_count b c).opened ≡ true)
  member_open x c e h = go (ltb c connection_count) refl
    where
      parts : ltb x (2 ^ connection_count) && all (λ c. implies (has x c) (is_open (table_of connection_count b) c)) (numbers 0 connection_count) ≡ true
      parts = rw (connections_length connection_count b) at e

      go : (t : Bool) → ltb c connection_count ≡ t → (c < connection_count) × ((connection_in connection_count b c).opened ≡ true)
      go false q = absurd (true≢false (sym h ∙ has_above x connection_count c (ltb-true x (2 ^ connection_count) (and_left (ltb x (2 ^ connection_count)) _ parts)) (ltb-false c connection_count q)))
      go true q =
          let g = ltb-true c connection_count q in
          let o = below_at (λ c. implies (has x c) (is_open (table_of connection_count b) c)) connection_count c (and_right (ltb x (2 ^ connection_count)) _ parts) g in
          (g, sym (ap (λ (y : Connection). y.opened) (connection_at_lem connection_count b c g)) ∙ (rw h at o))

  module _ (able : abilities_open (table_of connection_count b) ≡ true) (listen : listeners_open (table_of connection_count b) ≡ true) (hold : holders_open (table_of connection_count b) ≡ true)
      (clear : closed_clear (table_of connection_count b) ≡ true) (idle : sleepers_idle (table_of connection_count b) ≡ true) where
    used_open : (c : ℕ) → has used c ≡ true → (c < connection_count) × ((connection_in connection_count b c).opened ≡ true)
    used_open c e =
        or_cases _ _ (sym (used_is c) ∙ e)
        (λ f. or_cases _ _ f
        (λ g. some_at (λ k. has (row_in connection_count b k).listeners c) 32 g (λ k h q. member_open (row_in connection_count b k).listeners c (below_at (λ k. only_open (table_of connection_count b) (row_in connection_count b k).listeners) 32 k (sym (jobs_all connection_count b (λ j. only_open (table_of connection_count b) j.row.listeners)) ∙ listen) h) q))
        (λ g. some_at (λ q. has (function_in connection_count b q).able c) function_count g (λ k h q. member_open (function_in connection_count b k).able c (below_at (λ q. only_open (table_of connection_count b) (function_in connection_count b q).able) function_count k (sym (functions_all connection_count b (λ x. only_open (table_of connection_count b) x.able)) ∙ able) h) q)))
        (λ g. some_at (held_by b c) 32 g (λ k h q. holder k h q (row_in connection_count b k).holder refl))
      where
        holder : (k : ℕ) → k < job_count → held_by b c k ≡ true → (x : ℕ) → (row_in connection_count b k).holder ≡ x → (c < connection_count) × ((connection_in connection_count b c).opened ≡ true)
        holder k h q zero f =
            absurd (true≢false (sym (and_right (live (row_in connection_count b k)) (not (eqb (row_in connection_count b k).holder 0)) (and_left (is_held b k) (eqb (((row_in connection_count b k).holder - 1) % 32) c) q)) ∙ ap not (eq-eqb (row_in connection_count b k).holder 0 f)))
        holder k h q (suc d) f =
            let t : live (row_in connection_count b k) ≡ true = and_left (live (row_in connection_count b k)) (not (eqb (row_in connection_count b k).holder 0)) (and_left (is_held b k) (eqb (((row_in connection_count b k).holder - 1) % 32) c) q) in
            let m = holder_small b rows k h t in
            let e : ((row_in connection_count b k).holder - 1) % 32 ≡ c = eqb-true (((row_in connection_count b k).holder - 1) % 32) c (and_right (is_held b k) (eqb (((row_in connection_count b k).holder - 1) % 32) c) q) in
            let r : d ≡ c = omega arith in
            let g : c < connection_count = omega arith in
            let o : holder_open (table_of connection_count b) (row_in connection_count b k).holder ≡ true =
            below_at (λ k. holder_open (table_of connection_count b) (row_in connection_count b k).holder) 32 k (sym (jobs_all connection_count b (λ j. holder_open (table_of connection_count b) j.row.holder)) ∙ hold) h in
            (g, sym (ap (λ (y : Connection). y.opened) (connection_at_lem connection_count b c g)) ∙ ap (is_open (table_of connection_count b)) (sym r) ∙ (rw f at o))

    low_used : used < (2 ^ connection_count)
    low_used = low_set connection_count used fits (λ c g. none c g (has used c) refl)
      where
        none : (c : ℕ) → connection_count ≤ c → (t : Bool) → has used c ≡ t → t ≡ false
        none c g true e = absurd (omega (arith, (used_open c e).0))
        none c g false e = refl

    each_by : (c : ℕ) → c < connection_count → connection_holds b used busy c ≡ true
    each_by c h =
        holds_is c h
        ∙ holds_by (connection_in connection_count b c).opened (connection_in connection_count b c).asleep (connection_in connection_count b c).exceptions (has used c) (has busy c) (λ e. (used_open c e).1)
        (below_at (λ c. implies ((connection_in connection_count b c).asleep || (connection_in connection_count b c).exceptions) (connection_in connection_count b c).opened) connection_count c (sym (connections_all connection_count b (λ x. implies (x.asleep || x.exceptions) x.opened)) ∙ clear) h)
        (rw (busy_is b rows v s busy jb c) at (below_at (λ c. sleeper_idle (table_of connection_count b) c (connection_in connection_count b c)) connection_count c (sym (sleepers_all connection_count b) ∙ idle) h))

  pub connections_are : ltb used (2 ^ connection_count) && all (connection_holds b used busy) (numbers 0 connection_count) ≡ connection_rules b
  unfolding connection_rules
  connections_are = iff (ltb used (2 ^ connection_count) && all (connection_holds b used busy) (numbers 0 connection_count)) (connection_rules b) to from
    where
      to : ltb used (2 ^ connection_count) && all (connection_holds b used busy) (numbers 0 connection_count) ≡ true → connection_rules b ≡ true
      to e = rules_by (ltb-true used (2 ^ connection_count) (and_left (ltb used (2 ^ connection_count)) _ e)) (λ c h. below_at (connection_holds b used busy) connection_count c (and_right (ltb used (2 ^ connection_count)) _ e) h)

      from : connection_rules b ≡ true → ltb used (2 ^ connection_count) && all (connection_holds b used busy) (numbers 0 connection_count) ≡ true
      from e =
          let e1 = and_right (abilities_open (table_of connection_count b)) _ e in
          let e2 = and_right (listeners_open (table_of connection_count b)) _ e1 in
          let e3 = and_right (holders_open (table_of connection_count b)) _ e2 in
          let x1 = and_left (abilities_open (table_of connection_count b)) _ e in
          let x2 = and_left (listeners_open (table_of connection_count b)) _ e1 in
          let x3 = and_left (holders_open (table_of connection_count b)) _ e2 in
          let x4 = and_left (closed_clear (table_of connection_count b)) (sleepers_idle (table_of connection_count b)) e3 in
          let x5 = and_right (closed_clear (table_of connection_count b)) (sleepers_idle (table_of connection_count b)) e3 in
          and_both _ _ (lt-ltb used (2 ^ connection_count) (low_used x1 x2 x3 x4 x5)) (below_by (connection_holds b used busy) connection_count (λ c h. each_by x1 x2 x3 x4 x5 c h))
