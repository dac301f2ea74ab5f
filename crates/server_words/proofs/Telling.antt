-- 01: "Worker packets go to all listeners"; 02, of type 25: to those that set `exceptions`, and "all others get WORK_FAIL with the handle
-- alone, in one rising order of connection". Each listener gets exactly one packet and, in a table that obeys the rules, nothing
-- else is sent. Assumes nothing.
use Prim.Native.Nat.{ℕ, zero, suc, ◌<◌, ◌≤◌}
use mathlib.Core.Path.{◌≡◌, refl, ap, sym, ◌∙◌}
use mathlib.Core.Logic.{◌≢◌}
use mathlib.Core.Bool.{Bool, true, false, cond, ◌&&◌, ◌||◌}
use Rattle.std.specs.Prelude.{Some}
use mathlib.Core.List.{List, [], ◌∷◌, ◌++◌, map, append-nil}
use native.Mathlib.Decide.{ℕ_discrete}
use native.Mathlib.Omega.{arith}
use borrow.Author.Tests.{eq-eqb, ne_eqb, lt-ltb, le-ltb, ltb-true}
use lib.ListN.{length}
use lib.Dec.{eqb, ltb}
use Rattle.octets.specs.Bytes.{Bytes}
use Rattle.octets.proofs.Strings.{and_left, and_right, and_both}
use Rattle.sets.specs.Sets.{has, members}
use Rattle.sets.proofs.Members.{map_members}
use Rattle.lists.specs.Lists.{is_in, all, pairwise}
use Rattle.server.specs.declared.JobRow.{JobRow}
use Rattle.server.specs.Table.{Job, Table, no_job, connection_at, job_at, set_job, grabbable}
use Rattle.server.specs.Requests.{Work, tells, reports, ends, throws, work}
use Rattle.server.specs.Events.{Decision, copy, holds_handle, failure, failures, to_listener, to_listeners, listeners_of, worked, work_at, served, held_job_of}
use Rattle.server.specs.Rules.{obeys}
use Rattle.lists.proofs.Cases.{cond_both}
use Rattle.lists.proofs.Searches.{found}
use Rattle.lists.proofs.Rows.{clash, iff, or_off, all_at}
use Rattle.server_laws.proofs.Obeyed.{obeyed}
use Rattle.server_words.proofs.Quiet.{Quiet, awaited, one_job_quiet}

-- ---- members of a set, in order

all_append : (p : ℕ → Bool) (xs ys : List ℕ) → all p xs ≡ true → all p ys ≡ true → all p (xs ++ ys) ≡ true
all_append p [] ys e f = f
all_append p (x ∷ xs) ys e f = and_both (p x) _ (and_left (p x) _ e) (all_append p xs ys (and_right (p x) _ e) f)

-- one greater than all before it, at the end
rising_last : (xs : List ℕ) (y : ℕ) → pairwise ltb xs ≡ true → all (λ x. ltb x y) xs ≡ true → pairwise ltb (xs ++ (y ∷ [])) ≡ true
rising_last [] y e f = refl
rising_last (x ∷ xs) y e f =
    and_both (all (ltb x) (xs ++ (y ∷ []))) _ (all_append (ltb x) xs (y ∷ []) (and_left (all (ltb x) xs) _ e) (and_both (ltb x y) true (and_left (ltb x y) _ f) refl))
    (rising_last xs y (and_right (all (ltb x) xs) _ e) (and_right (ltb x y) _ f))

members_below : (n s m : ℕ) → n ≤ m → all (λ l. ltb l m) (members n s) ≡ true
unfolding members
members_below zero s m h = refl
members_below (suc n) s m h =
    all_append (λ l. ltb l m) (members n s) _ (members_below n s m (omega arith))
    (cond_both (λ (l : List ℕ). all (λ k. ltb k m) l ≡ true) (has s n) (and_both (ltb n m) true (lt-ltb n m (omega arith)) refl) refl)

rising_more : (n s : ℕ) (b : Bool) → pairwise ltb (members n s) ≡ true → pairwise ltb (members n s ++ cond b (n ∷ []) []) ≡ true
rising_more n s true r = rising_last (members n s) n r (members_below n s n (omega arith))
rising_more n s false r = rw append-nil r

-- no member comes twice: each is greater than the one before
pub members_rise : (n s : ℕ) → pairwise ltb (members n s) ≡ true
unfolding members
members_rise zero s = refl
members_rise (suc n) s = rising_more n s (has s n) (members_rise n s)

-- ---- who is in the list

in_append : (l : ℕ) (xs ys : List ℕ) → is_in l (xs ++ ys) ≡ is_in l xs || is_in l ys
in_append l [] ys = refl
in_append l (x ∷ xs) ys = ap (λ (b : Bool). eqb x l || b) (in_append l xs ys) ∙ or_assoc (eqb x l) (is_in l xs) (is_in l ys)
  where
    or_assoc : (a b c : Bool) → a || (b || c) ≡ (a || b) || c
    or_assoc true b c = refl
    or_assoc false b c = refl

below_more : (l n : ℕ) → n ≢ l → ltb l (suc n) ≡ ltb l n
below_more l n d = iff _ _ (λ e. let k = ltb-true l (suc n) e in lt-ltb l n (omega arith)) (λ e. let k = ltb-true l n e in lt-ltb l (suc n) (omega arith))

one_more : (n s l : ℕ) → Dec (n ≡ l) → (b : Bool) → has s n ≡ b → (ltb l n && has s l) || is_in l (cond b (n ∷ []) []) ≡ ltb l (suc n) && has s l
one_more n s l (yes e) true q = rw (← e, le-ltb n n (omega arith), lt-ltb n (suc n) (omega arith), eq-eqb n n refl, q)
one_more n s l (yes e) false q = rw (← e, le-ltb n n (omega arith), lt-ltb n (suc n) (omega arith), q)
one_more n s l (no d) true q = rw (below_more l n d, ne_eqb n l d) (or_off (ltb l n && has s l))
one_more n s l (no d) false q = rw (below_more l n d) (or_off (ltb l n && has s l))

-- the members below n are listed, and nobody else
pub members_are : (n s l : ℕ) → is_in l (members n s) ≡ ltb l n && has s l
unfolding members
members_are zero s l = sym (rw (le-ltb l 0 (omega arith)))
members_are (suc n) s l =
    in_append l (members n s) (cond (has s n) (n ∷ []) [])
    ∙ ap (λ (b : Bool). b || is_in l (cond (has s n) (n ∷ []) [])) (members_are n s l)
    ∙ one_more n s l (ℕ_discrete n l) (has s n) refl

-- ---- worker packets

-- a worker packet: one packet to each of these, each listener comes once, and nobody else
pub record ToldOnce (t : Table) (how : Work) (kind p : ℕ) (d : Decision) : Type 0 where
  pub listeners : List ℕ
  pub packets : d.packets ≡ map (to_listener how kind t (job_at t p).row) listeners
  pub rising : pairwise ltb listeners ≡ true
  pub exactly : (l : ℕ) → is_in l listeners ≡ ltb l (length t.connections) && has (job_at t p).row.listeners l

worked_awaited : (how : Work) (n d : Bytes) (j : Job) → awaited j.row ≡ true → awaited (worked how n d j).row ≡ true
worked_awaited tells n d j e = e
worked_awaited reports n d j e = e
worked_awaited ends n d j e = refl
worked_awaited throws n d j e = refl

worked_grabbable : (how : Work) (n d : Bytes) (j : Job) (ables : List ℕ) (k : ℕ) → grabbable ables k (worked how n d j).row ≡ true → grabbable ables k j.row ≡ true
worked_grabbable tells n d j ables k e = e
worked_grabbable reports n d j ables k e = e
worked_grabbable ends n d j ables k e = clash e refl
worked_grabbable throws n d j ables k e = clash e refl

module _ (t : Table) (c : ℕ) (how : Work) (kind : ℕ) (job n d : Bytes) (p : ℕ) (here : held_job_of t c job ≡ Some p) (h : obeys t ≡ true) where
  work_quiet : Quiet (to_listeners how kind t (job_at t p).row) (set_job t p (worked how n d (job_at t p))) (served c (work how kind job n d) t)
  unfolding served work_at
  work_quiet =
      let o = obeyed t h in
      let i : p < length t.jobs = (found (λ j. holds_handle t.hub c job j.row) no_job t.jobs (Some p) here).inside in
      rw here
      (one_job_quiet t o.awaited o.idle p (worked how n d (job_at t p)) i
      (worked_awaited how n d (job_at t p) (all_at (λ j. awaited j.row) t.jobs p no_job o.awaited i)) (worked_grabbable how n d (job_at t p)) (to_listeners how kind t (job_at t p).row))

  pub work_told : ToldOnce t how kind p (served c (work how kind job n d) t)
  unfolding to_listeners
  work_told =
      record {
        listeners = listeners_of t (job_at t p).row;
        packets = work_quiet.packets;
        rising = members_rise (length t.connections) (job_at t p).row.listeners;
        exactly = members_are (length t.connections) (job_at t p).row.listeners;
      }

-- ---- WORK_FAIL alone

-- an exception of a job of which no listener has set the option: WORK_FAIL goes to all of them
pub exception_fails : (t : Table) (kind : ℕ) (r : JobRow) → ((l : ℕ) → has r.listeners l ≡ true → (connection_at t l).exceptions ≡ false) → to_listeners throws kind t r ≡ failures t r
unfolding to_listeners
exception_fails t kind r f = map_members _ _ (length t.connections) r.listeners (λ l i m. ap (λ (b : Bool). cond b (copy l kind) (failure t.hub r.serial l)) (f l m))
