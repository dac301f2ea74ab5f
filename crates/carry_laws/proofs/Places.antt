-- Every plan fits the table: the places of its step and of its change are the table's, and the texts that it lays are no longer than their
-- places. Assumes nothing.
use Prim.Native.Nat.{ℕ, ◌≤◌, ◌<◌, zero-le}
use mathlib.Core.Path.{◌≡◌}
use mathlib.Core.Bool.{Bool, true, not, ◌&&◌}
use Rattle.std.specs.Prelude.{Option, Some, None}
use mathlib.Core.List.{List}
use native.Mathlib.Omega.{arith}
use borrow.Author.Tests.{leb-true}
use lib.ListN.{length}
use lib.Dec.{leb}
use Rattle.octets.specs.Bytes.{Bytes, zero_free, within, same}
use Rattle.octets.proofs.Strings.{and_left, and_right}
use Rattle.packet.specs.declared.Rule.TheVariants.{Text, Digits}
use Rattle.packet.specs.Arguments.{digits, fits}
use Rattle.lists.proofs.Searches.{found}
use Rattle.server.specs.Sizes.{connection_count, function_count, job_count}
use Rattle.server.specs.Table.{Table, no_row, no_job, no_function, rows_of, live, known, room_for, free_row, free_place, joined}
use Rattle.server.specs.Requests.{Work, tells, reports, ends, throws, Request}
use Rattle.server.specs.Events.{Send, Decision, holds_handle, held_job_of}
use Rattle.server_laws.proofs.Numbers.{rows_long}
use Rattle.server_laws.proofs.Functions.{room}
use Rattle.server_laws.proofs.Going.{best_found}
use Rattle.server_laws.proofs.Requests.{Good, Told}
use Rattle.server_laws.proofs.Outcome.{Change, able, unknown, disabled, identified, cleared, slept, no_job_for, grabbed, joins, accepts, worker, status, optioned, echoed}
use Rattle.plan.specs.declared.Plan.{Plan}
use Rattle.plan.specs.Values.{values_of}
use Rattle.plan.specs.Steps.{Inside}
use Rattle.plan.specs.Plans.{plan_can_do, plan_cant_do, plan_grab, plan_join, plan_work, plan_status, plan_served, plan_opening, plan_closing}
use Rattle.plan_laws.proofs.Draws.{plan_of, Draws, refused, done, draws}
use Rattle.plan_laws.proofs.Decides.{Words, Says, that_tells, that_reports, that_ends, that_throws, Suits, for_can, for_id, for_submit, for_work}
use Rattle.carry_places.proofs.Laid.{Whole}
use Rattle.carry_whole.specs.Fitting.{Fitting}

-- ---- lengths

within_most : (least most n : ℕ) (b : Bool) → within least most n && b ≡ true → n ≤ most
within_most least most n b e = leb-true n most (and_right (leb least n) _ (and_left (within least most n) b e))

text_most : (least most : ℕ) (x : Bytes) → fits (Text least most) x ≡ true → length x ≤ most
unfolding fits
text_most least most x e = within_most least most (length x) (zero_free x) e

digits_most : (least most : ℕ) (x : Bytes) → fits (Digits least most) x ≡ true → length x ≤ most
unfolding fits
digits_most least most x e = within_most least most (length x) (digits x) e

-- ---- the places that the searches found

module _ (c : ℕ) (t : Table) (whole : Whole t) where
  room_place : (f : Bytes) (q : ℕ) → room_for t.functions f ≡ Some q → q < function_count
  room_place f q e = omega (arith, (room t f q e).inside, whole.functions)

  known_place : (f : Bytes) (q : ℕ) → known t.functions f ≡ Some q → q < function_count
  known_place f q e = omega (arith, (found (λ x. same x.name f) no_function t.functions (Some q) e).inside, whole.functions)

  free_place_lem : (p : ℕ) → free_place t ≡ Some p → p < job_count
  unfolding free_row
  free_place_lem p e = omega (arith, (found (λ r. not (live r)) no_row (rows_of t) (Some p) e).inside, rows_long t, whole.jobs)

  joined_place : (f u : Bytes) (p : ℕ) → joined t f u ≡ Some p → p < job_count
  unfolding joined
  joined_place f u p e = omega (arith, (found _ no_job t.jobs (Some p) e).inside, whole.jobs)

  held_place : (h : Bytes) (p : ℕ) → held_job_of t c h ≡ Some p → p < job_count
  held_place h p e = omega (arith, (found (λ j. holds_handle t.hub c h j.row) no_job t.jobs (Some p) e).inside, whole.jobs)

  -- ---- the step

  work_inside : (how : Work) (h : Bytes) (p : ℕ) → held_job_of t c h ≡ Some p → Inside (plan_work (Some p) how (values_of t)).step
  unfolding plan_work
  work_inside tells h p e = zero-le
  work_inside reports h p e = zero-le
  work_inside ends h p e = held_place h p e
  work_inside throws h p e = held_place h p e

  status_inside : (o : Option ℕ) → Inside (plan_status o).step
  status_inside None = zero-le
  status_inside (Some p) = zero-le

  change_inside : c < connection_count → {a : Request} {ss : List Send} {u : Table} (m : Change c t a ss u) → Inside (plan_of c t m).step
  unfolding plan_can_do plan_cant_do plan_grab plan_join
  change_inside h (able f q e) = room_place f q e
  change_inside h (unknown f e) = zero-le
  change_inside h (disabled f q e) = known_place f q e
  change_inside h (identified i) = zero-le
  change_inside h cleared = h
  change_inside h slept = h
  change_inside h (no_job_for uniq e) = h
  change_inside h (grabbed uniq p e) = (omega (arith, (best_found t c p e).0, whole.jobs), h)
  change_inside h (joins priority background f u size p e) = joined_place f u p e
  change_inside h (accepts priority background f u size q p e₁ e₂ e₃ m) = free_place_lem p e₃
  change_inside h (worker how kind j n d p e) = work_inside how j p e
  change_inside h (status j o e) = status_inside o
  change_inside h (optioned name e) = h
  change_inside h echoed = zero-le

  draws_inside : c < connection_count → {a : Request} {p : Plan} {d : Decision} → Draws c t a p d → Inside p.step
  draws_inside h (refused a n r) = zero-le
  draws_inside h (done m) = change_inside h m

  pub served_inside : c < connection_count → (a : Request) → Inside (plan_served c a t).step
  served_inside h a = draws_inside h (draws c t a)

-- ---- the change

module _ (w : Words) (c : ℕ) (t : Table) (whole : Whole t) (inside : c < connection_count) where
  abbrev Fits : Plan → Type 0
  Fits p = Fitting p.change w.first w.second w.third

  work_fits : {how : Work} {n d : Bytes} (h : Bytes) → Says w how n d → Told how n d → (p : ℕ) → held_job_of t c h ≡ Some p → Fits (plan_work (Some p) how (values_of t))
  unfolding plan_work
  work_fits h (that_tells n d) g p e = zero-le
  work_fits h that_reports g p e = (held_place c t whole h p e, digits_most 1 10 w.second g.numerator, digits_most 1 10 w.third g.denominator)
  work_fits h (that_ends n d) g p e = zero-le
  work_fits h (that_throws n d) g p e = zero-le

  status_fits : (o : Option ℕ) → Fits (plan_status o)
  status_fits None = zero-le
  status_fits (Some p) = zero-le

  change_fits : {a : Request} {ss : List Send} {u : Table} (m : Change c t a ss u) → Suits w a → Good a → Fits (plan_of c t m)
  unfolding plan_can_do plan_cant_do plan_grab plan_join
  change_fits (able f q e) for_can g = (room_place c t whole f q e, text_most 1 32 f g)
  change_fits (unknown f e) s g = zero-le
  change_fits (disabled f q e) s g = zero-le
  change_fits (identified i) for_id g = (inside, text_most 1 64 w.first g)
  change_fits cleared s g = zero-le
  change_fits slept s g = zero-le
  change_fits (no_job_for uniq e) s g = zero-le
  change_fits (grabbed uniq p e) s g = zero-le
  change_fits (joins priority background f u size p e) s g = zero-le
  change_fits (accepts priority background f u size q p e₁ e₂ e₃ m) (for_submit priority' background' size') g =
      (free_place_lem c t whole p e₃, room_place c t whole f q e₂, text_most 1 32 f g.function, text_most 0 64 u g.unique)
  change_fits (worker how kind h n d p e) (for_work h' s) g = work_fits h s g p e
  change_fits (status h o e) s g = status_fits o
  change_fits (optioned name e) s g = zero-le
  change_fits echoed s g = zero-le

  draws_fits : {a : Request} {p : Plan} {d : Decision} → Draws c t a p d → Suits w a → Good a → Fits p
  draws_fits (refused a n r) s g = zero-le
  draws_fits (done m) s g = change_fits m s g

  pub served_fitting : {a : Request} → Suits w a → Good a → Fits (plan_served c a t)
  served_fitting {a} s g = draws_fits (draws c t a) s g

  pub opening_fitting : Fits (plan_opening c)
  opening_fitting = zero-le

  pub closing_fitting : Fits (plan_closing c)
  closing_fitting = inside
