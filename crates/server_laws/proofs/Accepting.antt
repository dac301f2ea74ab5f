-- A new job keeps a sound table sound: its function's name is put at the place found for it, and it is no other job's twin, for
-- otherwise it would have joined that one. Assumes nothing.
use Prim.Native.Nat.{ℕ, suc, ◌+◌, ◌<◌}
use mathlib.Core.Path.{◌≡◌, refl, ap, sym, ◌∙◌}
use mathlib.Core.Bool.{Bool, true, false, not, ◌||◌, and-false}
use Rattle.std.specs.Prelude.{Some, None}
use mathlib.Core.List.{[]}
use borrow.Author.Tests.{le-leb, not-true}
use lib.ListN.{length, set, length-set}
use lib.Dec.{leb, eqb-suc-zero}
use Rattle.octets.specs.Bytes.{Bytes, same, every, zero_free, within}
use Rattle.octets.proofs.Strings.{and_left, and_right, and_both, same_refl}
use Rattle.packet.specs.Layout.{unique}
use Rattle.packet.specs.Arguments.{fits}
use Rattle.sets.specs.Sets.{insert, is_empty}
use Rattle.sets.proofs.Laws.{nonempty, has_insert_same}
use Rattle.server.specs.declared.JobRow.{JobRow}
use Rattle.server.specs.Sizes.{unique_size}
use Rattle.server.specs.Table.{Function, Job, Table, no_function, no_job, function_at, job_at, set_function, live, queued, room_for, joins, joined, fresh_row, with_name}
use Rattle.server.specs.Events.{lost, submitted_by, new_job, accepted}
use Rattle.server.specs.Rules.{text_within, numbers_in_range, is_open, only_open}
use Rattle.lists.specs.Lists.{implies}
use Rattle.lists.proofs.Searches.{found}
use Rattle.lists.proofs.Rows.{clash, implies_by, or_right, all_at, all_row}
use Rattle.server.proofs.Rows.{range_fresh}
use Rattle.server_laws.proofs.Requests.{Submitted}
use Rattle.server_laws.proofs.Openness.{none_open, open_insert}
use Rattle.server_laws.proofs.Sound.{Sound, row_means}
use Rattle.server_laws.proofs.Jobs.{Twin, New, sound_new}
use Rattle.server_laws.proofs.Functions.{job_known, Place, there, free, Room, room, name_some, room_name, sound_name}

-- what a submission leaves of a row
pub record Kept (r s : JobRow) : Type 0 where
  pub serial : s.serial ≡ r.serial
  pub function : s.function ≡ r.function
  pub priority : s.priority ≡ r.priority
  pub holder : s.holder ≡ r.holder
  pub size : s.size ≡ r.size

pub submitted_keeps : (c : ℕ) (b : Bool) (r : JobRow) → Kept r (submitted_by c b r)
submitted_keeps c true r = record { serial = refl; function = refl; priority = refl; holder = refl; size = refl }
submitted_keeps c false r = record { serial = refl; function = refl; priority = refl; holder = refl; size = refl }

pub submitted_range : (m n c : ℕ) (b : Bool) (r : JobRow) → numbers_in_range m n r ≡ true → numbers_in_range m n (submitted_by c b r) ≡ true
submitted_range m n c true r e = e
submitted_range m n c false r e = e

-- the job is background or has a listener
pub submitted_unlost : (c : ℕ) (b : Bool) (r : JobRow) → lost (submitted_by c b r) ≡ false
submitted_unlost c true r = and-false (queued (submitted_by c true r))
submitted_unlost c false r = simp (nonempty (insert r.listeners c) c (has_insert_same r.listeners c), and-false)

-- so it is awaited, if it is queued
pub submitted_awaited : (c : ℕ) (b : Bool) (r : JobRow) → implies (queued (submitted_by c b r)) ((submitted_by c b r).background || not (is_empty (submitted_by c b r).listeners)) ≡ true
submitted_awaited c true r = implies_by (queued (submitted_by c true r)) _ (λ e. refl)
submitted_awaited c false r = implies_by (queued (submitted_by c false r)) _ (λ e. or_right r.background _ (ap not (nonempty (insert r.listeners c) c (has_insert_same r.listeners c))))

-- its listeners stay open connections: one more, if any, is the submitter
pub submitted_open : (t : Table) (c : ℕ) → c < length t.connections → is_open t c ≡ true → (b : Bool) (r : JobRow) → only_open t r.listeners ≡ true → only_open t (submitted_by c b r).listeners ≡ true
submitted_open t c i o true r e = e
submitted_open t c i o false r e = open_insert t r.listeners c i o e

unique_within : (u : Bytes) → fits unique u ≡ true → text_within unique_size u ≡ true
unfolding fits
unique_within u e = and_both (leb (length u) 64) (zero_free u) (and_right (leb 0 (length u)) _ (and_left (within 0 64 (length u)) (zero_free u) e)) (and_right (within 0 64 (length u)) (zero_free u) e)

module _ (c : ℕ) (t : Table) (inside : c < length t.connections) (opened : is_open t c ≡ true)
    (priority : ℕ) (background : Bool) (f u : Bytes) (size q p : ℕ) (g : Submitted priority f u size)
    (alone : joined t f u ≡ None) (here : room_for t.functions f ≡ Some q) (h : Sound t) where
  -- the function's place, and the table with its name there
  abbrev place : Function
  place = with_name f (function_at t q)

  abbrev table_named : Table
  table_named = set_function t q place

  abbrev bare : JobRow
  bare = fresh_row (suc t.last) q priority size

  abbrev new : Job
  new = new_job c priority background q u size (suc t.last)

  keeps : Kept bare new.row
  keeps = submitted_keeps c background bare

  space : Room t f q
  space = room t f q here

  abilities_open_lem : only_open t (function_at t q).able ≡ true
  abilities_open_lem = all_row (λ x. only_open t x.able) t.functions q no_function h.abilities (none_open t)

  sound_named : Sound table_named
  sound_named = sound_name t f q place space refl g.function abilities_open_lem h

  new_name : (function_at table_named new.row.function).name ≡ f
  new_name = rw keeps.function (room_name t f q place space refl g.function abilities_open_lem h)

  -- a job of this function has this very name
  name_there : Place t f q → (i : ℕ) → i < length t.jobs → live (job_at t i).row ≡ true → q ≡ (job_at t i).row.function → (function_at t (job_at t i).row.function).name ≡ f
  name_there (there e) i l v w = rw (← w) e
  name_there (free e n) i l v w = clash (job_known t h i l v) (rw (← w, e) (ap not (same_refl [])))

  no_twin : (i : ℕ) → i < length t.jobs → Twin new (job_at t i) → ⊥
  unfolding joined
  no_twin i l w =
      let k = job_at t i in
      let e : (function_at t k.row.function).name ≡ f = name_there space.place i l w.second (sym keeps.function ∙ w.function) in
      let n : joins t.functions f u k ≡ false = not-true _ (all_at (λ j. not (joins t.functions f u j)) t.jobs i no_job (found (joins t.functions f u) no_job t.jobs None alone) l) in
      let a : same k.unique u ≡ true = rw w.unique (same_refl k.unique) in
      clash (and_both (live k.row) _ w.second (and_both (not (same u [])) _ (ap not w.some_unique) (and_both (same k.unique u) _ a (rw e (same_refl f))))) n

  new_means : row_means table_named new ≡ true
  new_means =
      let l : live new.row ≡ true = rw keeps.serial (ap not (eqb-suc-zero t.last)) in
      let m = length (set t.functions q place) in
      let n = length t.connections in
      rw l (submitted_range m n c background bare (range_fresh m n (suc t.last) q priority size g.low (rw (length-set t.functions q place) space.inside)))

  is_new_lem : New table_named new
  unfolding every
  is_new_lem =
      record {
        serial = keeps.serial;
        texts = and_both (text_within unique_size u) true (unique_within u g.unique) refl;
        sizes = rw (new_name, keeps.size) (le-leb (length f + length u + size) 1022 g.together);
        means = new_means;
        listeners = submitted_open t c inside opened background bare (none_open t);
        holder = rw keeps.holder;
        named = rw (new_name, name_some f g.function);
        alone = no_twin;
      }

  pub sound_accepted : t.last < 4294967295 → Sound (accepted q f p new t)
  sound_accepted l = sound_new table_named p new l is_new_lem sound_named
