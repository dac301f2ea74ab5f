-- What becomes of one connection and of one unfinished job: a sound table stays sound when a connection that stays open changes, and a
-- job that a search found goes on or is over when it is grabbed, joined or worked on. Assumes nothing.
use Prim.Native.Nat.{ℕ, suc, ◌<◌}
use mathlib.Core.Path.{◌≡◌, refl, sym, ◌∙◌}
use mathlib.Core.Bool.{Bool, true, false, not, ◌&&◌, ◌||◌}
use Rattle.std.specs.Prelude.{Some}
use mathlib.Core.List.{List, map}
use borrow.Author.Tests.{eqb-true, eqb-false, not-true, not-false}
use lib.ListN.{length, set, length-set, get_or}
use lib.Dec.{eqb}
use Rattle.octets.specs.Bytes.{Bytes}
use Rattle.octets.proofs.Strings.{and_left, and_right, and_both}
use Rattle.packet.specs.Arguments.{fits}
use Rattle.server.specs.declared.Connection.{Connection}
use Rattle.server.specs.declared.JobRow.{JobRow}
use Rattle.server.specs.Table.{Job, Table, no_job, connection_at, job_at, set_connection, with_row, with_texts, with_holder, rows_of, ables_of, no_row, live, queued, held_by, grabbable, rank, greatest, best_row, best, free_row, free_place, joins, joined}
use Rattle.server.specs.Requests.{Work, tells, reports, ends, throws}
use Rattle.server.specs.Events.{sleeping, submitted_by, holds_handle, worked, held_job_of}
use Rattle.server.specs.Rules.{stored_number, row_has_meaning, is_open}
use Rattle.lists.proofs.Searches.{found}
use Rattle.lists.proofs.Rows.{implies_by, all_imp, all_set}
use Rattle.server.proofs.Rows.{range_holder}
use Rattle.server_laws.proofs.Numbers.{row_at, rows_long}
use Rattle.server_laws.proofs.Requests.{Told}
use Rattle.server_laws.proofs.Openness.{open_more, holder_more, still_open, bearers_more}
use Rattle.server_laws.proofs.Sound.{Sound, row_means, sound_connections}
use Rattle.server_laws.proofs.Jobs.{Still, Goes, over, on}
use Rattle.server_laws.proofs.Accepting.{submitted_keeps, submitted_range, submitted_open}

-- ---- connections

-- a row of an open connection
pub sound_connection : (t : Table) (c : ℕ) (x : Connection) → x.opened ≡ true → Sound t → Sound (set_connection t c x)
sound_connection t c x o h =
    let u = set_connection t c x in
    let long = length-set t.connections c x in
    let more = still_open t c x o in
    sound_connections t (set t.connections c x) long
    (all_imp _ _ (λ y e. open_more t u long more y.able e) t.functions h.abilities)
    (all_imp _ _ (λ j e. open_more t u long more j.row.listeners e) t.jobs h.listeners)
    (all_imp _ _ (λ j e. holder_more t u more j.row.holder e) t.jobs h.holders)
    (all_set _ t.connections c x h.clear (implies_by (x.asleep || x.exceptions) x.opened (λ e. o)))
    (bearers_more t u long more refl h.bearers)
    h

pub sound_sleeping : (t : Table) (c : ℕ) (b : Bool) → (connection_at t c).opened ≡ true → Sound t → Sound (sleeping b c t)
unfolding sleeping
sound_sleeping t c b o h = sound_connection t c _ o h

-- ---- jobs

pub still_same : (t : Table) (j : Job) → Still t j j
still_same t j = record { serial = refl; function = refl; size = refl; unique = refl; texts = λ e. e; means = λ e. e; listeners = λ e. e; holder = λ e. e }

-- an unfinished job's row keeps a meaning that its numbers keep
pub live_means : (t : Table) (j k : Job) → live j.row ≡ true → k.row.serial ≡ j.row.serial → (row_has_meaning t j ≡ true → row_has_meaning t k ≡ true) → row_means t j ≡ true → row_means t k ≡ true
live_means t j k l s h e =
    let m : row_has_meaning t j ≡ true = rw l at e in
    let l' : live k.row ≡ true = rw s l in
    rw l' (h m)

-- ---- what the searches found

ranked : (ables : List ℕ) (c : ℕ) (r : JobRow) → (rank ables c r ≡ 0 → ⊥) → grabbable ables c r ≡ true
unfolding rank
ranked ables c r n = go (grabbable ables c r) refl
  where
    go : (b : Bool) → grabbable ables c r ≡ b → b ≡ true
    go true e = refl
    go false e = absurd (n (rw e))

pub best_found : (t : Table) (c p : ℕ) → best t c ≡ Some p → (p < length t.jobs) × (grabbable (ables_of t) c (job_at t p).row ≡ true)
unfolding best_row
best_found t c p e =
    let m = greatest (map (rank (ables_of t) c) (rows_of t)) in
    let w = found (λ r. not (eqb m 0) && eqb (rank (ables_of t) c r) m) no_row (rows_of t) (Some p) e in
    let n : m ≡ 0 → ⊥ = eqb-false m 0 (not-true _ (and_left (not (eqb m 0)) _ w.passes)) in
    let r : rank (ables_of t) c (get_or (rows_of t) p no_row) ≡ m = eqb-true _ m (and_right (not (eqb m 0)) _ w.passes) in
    (rw (rows_long t) at w.inside, rw (row_at t p) at (ranked (ables_of t) c (get_or (rows_of t) p no_row) (λ z. n (sym r ∙ z))))

pub grabbed_live : (t : Table) (c p : ℕ) → best t c ≡ Some p → live (job_at t p).row ≡ true
grabbed_live t c p e = and_left (live (job_at t p).row) _ (and_left (queued (job_at t p).row) _ (best_found t c p e).1)

pub joined_found : (t : Table) (f u : Bytes) (p : ℕ) → joined t f u ≡ Some p → live (job_at t p).row ≡ true
unfolding joined
joined_found t f u p e = and_left (live (job_at t p).row) _ (found (joins t.functions f u) no_job t.jobs (Some p) e).passes

pub joined_inside : (t : Table) (f u : Bytes) (p : ℕ) → joined t f u ≡ Some p → p < length t.jobs
unfolding joined
joined_inside t f u p e = (found (joins t.functions f u) no_job t.jobs (Some p) e).inside

pub held_found : (t : Table) (c : ℕ) (h : Bytes) (p : ℕ) → held_job_of t c h ≡ Some p → live (job_at t p).row ≡ true
unfolding holds_handle
held_found t c h p e =
    and_left (live (job_at t p).row) _ (and_left (held_by c (job_at t p).row) _ (found (λ j. holds_handle t.hub c h j.row) no_job t.jobs (Some p) e).passes)

pub free_place_lem : (t : Table) (p : ℕ) → free_place t ≡ Some p → ((job_at t p).row.serial ≡ 0) × (p < length t.jobs)
unfolding free_row
free_place_lem t p e =
    let h = found (λ r. not (live r)) no_row (rows_of t) (Some p) e in
    let n : not (live (job_at t p).row) ≡ true = rw (row_at t p) at h.passes in
    (eqb-true _ 0 (not-false _ (not-true _ n)), rw (rows_long t) at h.inside)

-- ---- jobs that go on

module _ (t : Table) (c : ℕ) (inside : c < length t.connections) (opened : is_open t c ≡ true) (j : Job) (l : live j.row ≡ true) where
  pub still_grabbed : Still t j (with_row (with_holder (suc c) j.row) j)
  still_grabbed =
      record {
        serial = refl;
        function = refl;
        size = refl;
        unique = refl;
        texts = λ e. e;
        means = live_means t j (with_row (with_holder (suc c) j.row) j) l refl (range_holder (length t.functions) (length t.connections) j.row (suc c) inside);
        listeners = λ e. e;
        holder = λ e. opened;
      }

  pub still_submitted : (b : Bool) → Still t j (with_row (submitted_by c b j.row) j)
  still_submitted b =
      let k = submitted_keeps c b j.row in
      record {
        serial = k.serial;
        function = k.function;
        size = k.size;
        unique = refl;
        texts = λ e. e;
        means = live_means t j (with_row (submitted_by c b j.row) j) l k.serial (submitted_range (length t.functions) (length t.connections) c b j.row);
        listeners = submitted_open t c inside opened b j.row;
        holder = λ e. rw k.holder e;
      }

  pub goes_worked : (how : Work) (n d : Bytes) → Told how n d → Goes t j (worked how n d j)
  unfolding fits
  goes_worked tells n d g = on (still_same t j)
  goes_worked reports n d g =
      on (record {
        serial = refl;
        function = refl;
        size = refl;
        unique = refl;
        texts = λ e. and_both (stored_number n) (stored_number d) g.numerator g.denominator;
        means = live_means t j (with_texts n d j) l refl (λ e. e);
        listeners = λ e. e;
        holder = λ e. e;
      })
  goes_worked ends n d g = over
  goes_worked throws n d g = over
