-- Document 01's sentence on a new job, word for word, for a table that obeys the rules: "JOB_CREATED goes out first. For a new job,
-- NOOP then goes to each sleeper able to do it", and to nobody else. Assumes nothing.
use Prim.Native.Nat.{ℕ, suc, ◌<◌}
use mathlib.Core.Path.{◌≡◌, refl, ap, sym, ◌∙◌}
use mathlib.Core.Bool.{Bool, true, false, cond, ◌&&◌}
use Rattle.std.specs.Prelude.{Some, None}
use mathlib.Core.List.{List, ◌∷◌, map}
use borrow.Author.Tests.{lt-ltb}
use lib.ListN.{length, get_or, length-set, length-map, get_or-map}
use lib.Seq.{get_or-set_same}
use lib.Dec.{eqb-suc-zero}
use Rattle.octets.specs.Bytes.{Bytes}
use Rattle.octets.proofs.Strings.{and_left, and_right, and_both}
use Rattle.sets.specs.Sets.{has}
use Rattle.server.specs.declared.JobRow.{JobRow}
use Rattle.lists.specs.Lists.{any, filter, numbers}
use Rattle.server.specs.Table.{Job, Table, no_function, no_job, connection_at, function_at, job_at, rows_of, ables_of, no_row, queued, able, grabbable, room_for, free_place, joined, with_name, fresh_row}
use Rattle.server.specs.Requests.{submit}
use Rattle.server.specs.Events.{settle, lost, unless_lost, dropped, wakes, to_wake_in, to_wake, noop, created, new_job, accepted, submit_new, submit_to, served}
use Rattle.server.specs.Rules.{obeys}
use Rattle.lists.proofs.Cases.{cond_cases}
use Rattle.lists.proofs.Rows.{clash, iff, any_at, any_where, each_set}
use Rattle.server_laws.proofs.Numbers.{row_at, able_at_lem, rows_long, row_passes}
use Rattle.server_laws.proofs.Functions.{room}
use Rattle.server_laws.proofs.Going.{free_place_lem}
use Rattle.server_laws.proofs.Accepting.{Kept, submitted_keeps, submitted_unlost}
use Rattle.server_laws.proofs.Obeyed.{obeyed}
use Rattle.server_laws.proofs.AtRest.{sleeps_on, choose_same}

module _ (c : ℕ) (t : Table) (priority : ℕ) (background : Bool) (f u : Bytes) (size q p : ℕ)
    (here : room_for t.functions f ≡ Some q) (free : free_place t ≡ Some p) (h : obeys t ≡ true) where
  abbrev bare : JobRow
  bare = fresh_row (suc t.last) q priority size

  abbrev new : Job
  new = new_job c priority background q u size (suc t.last)

  abbrev after : Table
  after = accepted q f p new t

  keeps : Kept bare new.row
  keeps = submitted_keeps c background bare

  place_inside : p < length t.jobs
  place_inside = (free_place_lem t p free).1

  new_queued : queued new.row ≡ true
  new_queued = rw (keeps.serial, keeps.holder, eqb-suc-zero t.last)

  -- naming a function makes nobody able
  able_same : (k x : ℕ) → able (ables_of after) k x ≡ able (ables_of t) k x
  able_same k x =
      let e = each_set (λ i y. y.able ≡ (function_at t i).able) t.functions q (with_name f (function_at t q)) no_function (room t f q here).inside refl (λ i d. refl) k in
      ap (λ (s : ℕ). has s x) (able_at_lem after k ∙ e ∙ sym (able_at_lem t k))

  row_after : (i : ℕ) → get_or (rows_of (dropped after)) i no_row ≡ (unless_lost (job_at after i)).row
  unfolding dropped
  row_after i = row_at (dropped after) i ∙ ap (λ (j : Job). j.row) (get_or-map unless_lost after.jobs i no_job)

  new_row : get_or (rows_of (dropped after)) p no_row ≡ new.row
  new_row =
      row_after p ∙ ap (λ (j : Job). (unless_lost j).row) (get_or-set_same t.jobs p new no_job place_inside)
      ∙ ap (λ (b : Bool). (cond b no_job new).row) (submitted_unlost c background bare)

  -- what can be grabbed after dropping could be before
  kept_grabbable : (ables : List ℕ) (x : ℕ) (j : Job) → grabbable ables x (unless_lost j).row ≡ true → grabbable ables x j.row ≡ true
  kept_grabbable ables x j e = cond_cases (λ (k : Job). grabbable ables x k.row ≡ true → grabbable ables x j.row ≡ true) (lost j.row) (λ l g. clash g refl) (λ l g. g) e

  rows_after : length (rows_of (dropped after)) ≡ length t.jobs
  unfolding dropped
  rows_after = rows_long (dropped after) ∙ length-map after.jobs unless_lost ∙ length-set t.jobs p new

  module _ (x : ℕ) (inside : x < length t.connections) (asleep : (connection_at t x).asleep ≡ true) where
    -- an earlier job was not grabbable, so only the new one can be
    only_new : (i : ℕ) → i < length t.jobs → grabbable (ables_of after) x (job_at after i).row ≡ true → able (ables_of t) q x ≡ true
    only_new =
        each_set (λ i k. i < length t.jobs → grabbable (ables_of after) x k.row ≡ true → able (ables_of t) q x ≡ true) t.jobs p new no_job place_inside
        (λ l g. sym (able_same q x) ∙ (rw keeps.function at (and_right (queued new.row) _ g)))
        (λ i d l g.
        let a : grabbable (ables_of t) x (job_at t i).row ≡ true
        = and_both (queued (job_at t i).row) _ (and_left (queued (job_at t i).row) _ g) (sym (able_same (job_at t i).row.function x) ∙ and_right (queued (job_at t i).row) _ g) in
        clash (and_both (connection_at t x).asleep _ asleep (row_passes t (grabbable (ables_of t) x) i l a)) (sleeps_on t (obeyed t h).idle x inside))

    work_is_new : any (grabbable (ables_of after) x) (rows_of (dropped after)) ≡ able (ables_of t) q x
    work_is_new = iff _ _ there back
      where
        there : any (grabbable (ables_of after) x) (rows_of (dropped after)) ≡ true → able (ables_of t) q x ≡ true
        there e =
            let (i, l, g) = any_where (grabbable (ables_of after) x) (rows_of (dropped after)) no_row e in
            only_new i (rw rows_after at l) (kept_grabbable (ables_of after) x (job_at after i) (rw (row_after i) at g))

        back : able (ables_of t) q x ≡ true → any (grabbable (ables_of after) x) (rows_of (dropped after)) ≡ true
        back a = any_at (grabbable (ables_of after) x) (rows_of (dropped after)) p no_row (rw rows_after place_inside)
            (rw new_row (and_both (queued new.row) _ new_queued (rw keeps.function (able_same q x ∙ a))))

  -- a sleeper able to do the new job's function
  abbrev pub sleeper_able : ℕ → Bool
  sleeper_able x = (connection_at t x).asleep && able (ables_of t) q x

  pub new_job_wakes : to_wake (dropped after) ≡ filter sleeper_able (numbers 0 (length t.connections))
  unfolding to_wake_in dropped
  new_job_wakes = choose_same _ sleeper_able (length t.connections) (λ x l. go x l (connection_at t x).asleep refl)
    where
      go : (x : ℕ) → x < length t.connections → (b : Bool) → (connection_at t x).asleep ≡ b
          → wakes (ables_of after) (rows_of (dropped after)) x (connection_at t x) ≡ (connection_at t x).asleep && able (ables_of t) q x
      go x l true e = rw e (work_is_new x l e)
      go x l false e = rw e

  pub new_job_packets : joined t f u ≡ None → t.last < 4294967295
      → (served c (submit priority background f u size) t).packets ≡ created t.hub c (suc t.last) ∷ map noop (filter sleeper_able (numbers 0 (length t.connections)))
  unfolding served submit_to submit_new settle
  new_job_packets alone l = rw (alone, here, free, lt-ltb t.last 4294967295 l, new_job_wakes)
