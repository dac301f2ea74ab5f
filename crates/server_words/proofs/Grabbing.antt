-- 01: "Grabbing ends sleep. Among queued jobs whose function the connection can do, the answer is the highest priority, then the lowest
-- serial; NO_JOB exactly if there is none." For a table that obeys the rules. Assumes nothing.
use Prim.Native.Nat.{ℕ, zero, suc, ◌+◌, ◌-◌, ◌*◌, ◌<◌, ◌≤◌}
use mathlib.Core.Path.{◌≡◌, refl, ap, ◌∙◌}
use mathlib.Core.Bool.{Bool, true, false, not, ◌&&◌}
use Rattle.std.specs.Prelude.{Option, Some, None}
use mathlib.Core.List.{List, [], ◌∷◌, map}
use native.Mathlib.Nat.{not-suc-le-zero, le_of_suc-le-suc}
use native.Mathlib.Omega.{arith}
use borrow.Author.Tests.{ne_eqb, eqb-true, eqb-false, leb-true, ltb-true, ltb-false, not-true}
use lib.ListN.{length, get_or, set, length-set}
use lib.Seq.{get_or-set_same}
use lib.Dec.{eqb, ltb, leb, eqb-suc-zero}
use Rattle.octets.proofs.Strings.{and_left, and_right, and_both}
use Rattle.server.specs.declared.Connection.{Connection}
use Rattle.server.specs.declared.JobRow.{JobRow}
use Rattle.lists.specs.Lists.{any, all}
use Rattle.server.specs.Table.{Job, Table, closed, no_row, no_job, connection_at, job_at, rows_of, ables_of, set_job, with_row, with_holder, live, queued, grabbable, rank, greatest, best_row, best}
use Rattle.server.specs.Requests.{grab}
use Rattle.server.specs.Events.{plain, assign, Decision, settle, sleeping, grab_at, served}
use Rattle.server.specs.Rules.{queued_awaited, sleepers_idle, obeys}
use Rattle.lists.proofs.Searches.{found}
use Rattle.lists.proofs.Rows.{clash, implies_by, never, or_false, all_at, any_where, row_set}
use Rattle.server_laws.proofs.Numbers.{row_at, rows_long, row_passes, row_where}
use Rattle.server_laws.proofs.Going.{best_found}
use Rattle.server_laws.proofs.Obeyed.{obeyed}
use Rattle.server_laws.proofs.Words.{has_work}
use Rattle.server_words.proofs.Quiet.{and_off, Quiet, quiet, idle_kept, one_job_quiet}

-- ---- which job is given

-- r is grabbed before q: it has the higher priority, or the same and the lower serial
pub data Before (r q : JobRow) : Type 0 where
  higher : q.priority < r.priority → Before r q
  older : q.priority ≡ r.priority → r.serial ≤ q.serial → Before r q

-- the job at place p can be grabbed by connection c, and is grabbed before every other that can
pub record First (t : Table) (c p : ℕ) : Type 0 where
  pub inside : p < length t.jobs
  pub can : grabbable (ables_of t) c (job_at t p).row ≡ true
  pub first : (i : ℕ) → i < length t.jobs → grabbable (ables_of t) c (job_at t i).row ≡ true → Before (job_at t p).row (job_at t i).row

module _ {A : Type 0} (f : A → ℕ) where
  greatest_at : (l : List A) (i : ℕ) (d : A) → i < length l → f (get_or l i d) ≤ greatest (map f l)
  greatest_at [] i d h = absurd (not-suc-le-zero h)
  greatest_at (x ∷ l) zero d h = omega arith
  greatest_at (x ∷ l) (suc i) d h = let r = greatest_at l i d (le_of_suc-le-suc h) in omega arith

  -- the greatest is some entry's, or 0
  greatest_reached : (m : ℕ) (l : List A) → any (λ x. eqb (f x) m) l ≡ false → m ≡ greatest (map f l) → m ≡ 0
  greatest_reached m [] n e = e
  greatest_reached m (x ∷ l) n e =
      let (p, q) = or_false (eqb (f x) m) _ n in
      let z : f x ≡ m → ⊥ = eqb-false (f x) m p in
      greatest_reached m l q (omega arith)

rank_is : (ables : List ℕ) (c : ℕ) (r : JobRow) → grabbable ables c r ≡ true → rank ables c r ≡ r.priority * 4294967296 + (4294967296 - r.serial)
unfolding rank
rank_is ables c r g = rw g

-- ranks are ordered as the jobs are
ordered : (r q : JobRow) → r.serial < 4294967296 → q.serial < 4294967296
    → q.priority * 4294967296 + (4294967296 - q.serial) ≤ r.priority * 4294967296 + (4294967296 - r.serial) → Before r q
ordered r q a b l = go (ltb q.priority r.priority) refl
  where
    go : (o : Bool) → ltb q.priority r.priority ≡ o → Before r q
    go true e = higher (ltb-true _ _ e)
    go false e = let k : r.priority ≤ q.priority = ltb-false _ _ e in older (omega arith) (omega arith)

module _ (t : Table) (c : ℕ) (h : obeys t ≡ true) where
  serial_small : (i : ℕ) → i < length t.jobs → (job_at t i).row.serial < 4294967296
  serial_small i l =
      let o = (obeyed t h).sound in
      omega (arith, leb-true (job_at t i).row.serial t.last (all_at (λ j. leb j.row.serial t.last) t.jobs i no_job o.below l), ltb-true t.last 4294967296 o.small)

  abbrev rank_at : JobRow → ℕ
  rank_at r = rank (ables_of t) c r

  best_rank : (i : ℕ) → i < length t.jobs → rank_at (job_at t i).row ≤ greatest (map rank_at (rows_of t))
  best_rank i l = rw (row_at t i) at (greatest_at rank_at (rows_of t) i no_row (rw (rows_long t) l))

  -- the place that a search for the greatest rank finds
  pub best_first : (p : ℕ) → best t c ≡ Some p → First t c p
  unfolding best_row
  best_first p e =
      let (i, g) = best_found t c p e in
      let m = greatest (map rank_at (rows_of t)) in
      let w = found (λ r. not (eqb m 0) && eqb (rank_at r) m) no_row (rows_of t) (Some p) e in
      let r : rank_at (job_at t p).row ≡ m = rw (row_at t p) at (eqb-true _ m (and_right (not (eqb m 0)) _ w.passes)) in
      record {
        inside = i;
        can = g;
        first = λ k l q.
            ordered (job_at t p).row (job_at t k).row (serial_small p i) (serial_small k l)
            (omega (arith, best_rank k l, r, rank_is (ables_of t) c (job_at t p).row g, rank_is (ables_of t) c (job_at t k).row q));
      }

  -- there is a job to give exactly if there is one that can be grabbed
  best_some : (p : ℕ) → best t c ≡ Some p → has_work t c ≡ true
  best_some p e = let (i, g) = best_found t c p e in row_passes t (grabbable (ables_of t) c) p i g

  best_none : best t c ≡ None → has_work t c ≡ false
  unfolding best_row
  best_none e = never _ (λ w.
      let (i, l, g) = row_where t (grabbable (ables_of t) c) w in
      let m = greatest (map rank_at (rows_of t)) in
      let s = serial_small i l in
      let big : 1 ≤ m = omega (arith, best_rank i l, rank_is (ables_of t) c (job_at t i).row g) in
      let z : m ≡ 0 → ⊥ = λ q. absurd (omega arith) in
      let n : all (λ r. not (not (eqb m 0) && eqb (rank_at r) m)) (rows_of t) ≡ true = found (λ r. not (eqb m 0) && eqb (rank_at r) m) no_row (rows_of t) None e in
      z (greatest_reached rank_at m (rows_of t) (never _ (λ a.
      let (k, b, q) = any_where (λ r. eqb (rank_at r) m) (rows_of t) no_row a in
      clash (and_both (not (eqb m 0)) _ (ap not (ne_eqb m 0 z)) q) (not-true _ (all_at (λ r. not (not (eqb m 0) && eqb (rank_at r) m)) (rows_of t) k no_row n b)))) refl))

-- ---- what a grab answers and leaves

-- a grab that is given the job at this place, and holds it from now on
pub record Assigned (t : Table) (c : ℕ) (uniq : Bool) (d : Decision) : Type 0 where
  pub place : ℕ
  pub given : First t c place
  pub packets : d.packets ≡ assign uniq c place ∷ []
  pub jobs : d.table.jobs ≡ set t.jobs place (with_row (with_holder (suc c) (job_at t place).row) (job_at t place))

module _ (t : Table) (c : ℕ) (h : obeys t ≡ true) where
  abbrev up : Table
  up = sleeping false c t

  up_idle : sleepers_idle up ≡ true
  unfolding sleeping
  up_idle =
      idle_kept t up
      (record {
        long = length-set t.connections c _;
        asleep = λ k. row_set (λ (x : Connection). x.asleep ≡ true → (connection_at t k).asleep ≡ true) t.connections c _ k closed (λ e. clash e refl) (λ e. e);
        grabs = λ k w. w;
      })
      (obeyed t h).idle

  up_awaited : queued_awaited up ≡ true
  unfolding sleeping
  up_awaited = (obeyed t h).awaited

  abbrev taken : ℕ → Job
  taken p = with_row (with_holder (suc c) (job_at up p).row) (job_at up p)

  -- a job that is held is not in the queue
  not_queued : (p : ℕ) → queued (taken p).row ≡ false
  not_queued p = rw (eqb-suc-zero c) (and_off (live (taken p).row))

  given_quiet : (uniq : Bool) (p : ℕ) → p < length t.jobs → Quiet (assign uniq c p ∷ []) (set_job up p (taken p)) (settle (assign uniq c p ∷ []) (set_job up p (taken p)))
  unfolding sleeping
  given_quiet uniq p i =
      one_job_quiet up up_awaited up_idle p (taken p) i (implies_by (queued (taken p).row) _ (λ e. clash e (not_queued p)))
      (λ fs k e. clash (and_left (queued (taken p).row) _ e) (not_queued p)) (assign uniq c p ∷ [])

  grab_given : (uniq : Bool) (p : ℕ) → best t c ≡ Some p → Quiet (assign uniq c p ∷ []) (set_job up p (taken p)) (served c (grab uniq) t)
  unfolding served grab_at
  grab_given uniq p e = rw e (given_quiet uniq p (best_found t c p e).0)

  none_quiet : (uniq : Bool) → best t c ≡ None → Quiet (plain c 10 [] ∷ []) up (served c (grab uniq) t)
  unfolding served grab_at
  none_quiet uniq e = rw e (quiet (plain c 10 [] ∷ []) up up_awaited up_idle)

  -- "NO_JOB exactly if there is none"
  pub grab_no_job : (uniq : Bool) → has_work t c ≡ false → (served c (grab uniq) t).packets ≡ plain c 10 [] ∷ []
  grab_no_job uniq w = go (best t c) refl
    where
      go : (o : Option ℕ) → best t c ≡ o → (served c (grab uniq) t).packets ≡ plain c 10 [] ∷ []
      go None e = (none_quiet uniq e).packets
      go (Some p) e = clash (best_some t c h p e) w

  -- "the highest priority, then the lowest serial"
  pub grab_job : (uniq : Bool) → has_work t c ≡ true → Assigned t c uniq (served c (grab uniq) t)
  unfolding sleeping
  grab_job uniq w = go (best t c) refl
    where
      go : (o : Option ℕ) → best t c ≡ o → Assigned t c uniq (served c (grab uniq) t)
      go None e = clash w (best_none t c h e)
      go (Some p) e = let q = grab_given uniq p e in record { place = p; given = best_first t c h p e; packets = q.packets; jobs = q.jobs }

  -- "Grabbing ends sleep"
  pub grab_awake : (uniq : Bool) → c < length t.connections → (connection_at (served c (grab uniq) t).table c).asleep ≡ false
  unfolding sleeping
  grab_awake uniq i = go (best t c) refl
    where
      awake : (connection_at up c).asleep ≡ false
      awake = ap (λ (x : Connection). x.asleep) (get_or-set_same t.connections c _ closed i)

      go : (o : Option ℕ) → best t c ≡ o → (connection_at (served c (grab uniq) t).table c).asleep ≡ false
      go None e = ap (λ (cs : List Connection). (get_or cs c closed).asleep) (none_quiet uniq e).connections ∙ awake
      go (Some p) e = ap (λ (cs : List Connection). (get_or cs c closed).asleep) (grab_given uniq p e).connections ∙ awake
