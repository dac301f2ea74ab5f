-- Every order of packets is orderly: the jobs that it names are unfinished, the packet that it passes on may go out, and the handle
-- that it answers is one. Assumes nothing.
use Prim.Native.Nat.{ℕ, ◌<◌, zero-le}
use mathlib.Core.Path.{◌≡◌, refl, sym, ap, ◌∙◌, subst}
use mathlib.Core.Bool.{Bool, true}
use Rattle.std.specs.Prelude.{Option, Some, None}
use mathlib.Core.List.{List, [], ◌∷◌}
use native.Mathlib.Omega.{arith}
use lib.Dec.{T}
use Rattle.octets.specs.Bytes.{Bytes}
use Rattle.octets.proofs.Strings.{and_left}
use Rattle.packet.specs.declared.Ends.{Ends}
use Rattle.packet.specs.declared.Shape.{Shape}
use Rattle.packet.specs.declared.Shape.TheVariants.{Handle, Echo}
use Rattle.packet.specs.Layout as L
use Rattle.packet.specs.Layout.{request_shape, response_shape, rules_of}
use Rattle.packet.specs.Arguments.{fits, fit_all}
use Rattle.packet.specs.Packet.{given, read, requests}
use Rattle.packet.specs.Answers.{answer_of, argument_at}
use Rattle.packet.specs.Answers as PA
use Rattle.packet_kinds.proofs.Tests.{bools, range_arm}
use Rattle.packet_kinds.proofs.Shapes.{shapes}
use Rattle.lists.proofs.Searches.{found}
use Rattle.server.specs.Table.{Table, no_job, job_at, live, has_handle, job_of}
use Rattle.server.specs.Requests.{Work, tells, reports, ends, throws, Request, reset, pre_sleep, echo, bad, can_do, cant_do, identify, grab, submit, work, get_status, option, requested}
use Rattle.server.specs.Events.{Send, Decision}
use Rattle.server_laws.proofs.Going.{best_found, grabbed_live}
use Rattle.server_laws.proofs.Outcome.{Change, able, unknown, disabled, identified, cleared, slept, no_job_for, grabbed, joins, accepts, worker, status, optioned, echoed}
use Rattle.plan.specs.declared.Plan.{Plan}
use Rattle.plan.specs.Values.{values_of}
use Rattle.plan.specs.Plans.{plan_can_do, plan_cant_do, plan_grab, plan_join, plan_work, plan_status, plan_served}
use Rattle.plan_laws.proofs.Draws.{plan_of, Draws, refused, done, draws}
use Rattle.plan_laws.proofs.Decides.{Suits, for_work, for_status}
use Rattle.carry_places.proofs.Laid.{Whole}
use Rattle.carry_packet.specs.Messages.{Forwards}
use Rattle.carry_packet.proofs.Forwarding.{read_forwards, served_below, work_forwards, forward_sendable, forward_given}
use Rattle.carry_output.specs.Orderly.{Orderly}
use Rattle.carry_laws.proofs.Requests.{words_given, request_suits}

-- ---- the shape of a request whose argument is answered

-- an echo's data, and the handle of a question for a status
shaped : Shape → Request → Bool
shaped s reset = true
shaped s pre_sleep = true
shaped s echo = shapes.same Echo s
shaped s (bad n) = true
shaped s (can_do f) = true
shaped s (cant_do f) = true
shaped s (identify i) = true
shaped s (grab uniq) = true
shaped s (submit priority background f u size) = true
shaped s (work how kind h n d) = true
shaped s (get_status h) = shapes.same Handle s
shaped s (option name) = true

module _ (x y z : Bytes) (k : ℕ) (low : k < 37) where
  shaped_row : ℕ → Bool
  shaped_row i = shaped (request_shape i) (requested i x y z)

  shaped_all : shaped_row k ≡ true
  unfolding shaped shaped_row requested request_shape
  shaped_all = sym (range_arm bools shaped_row [] 0 37 tt k tt zero-le low)

  shape_of : (a : Request) (s : Shape) → requested k x y z ≡ a → shaped (request_shape k) a ≡ shapes.same s (request_shape k) → s ≡ request_shape k
  unfolding shaped_row
  shape_of a s e q = shapes.tells s (request_shape k) (subst T (sym (sym q ∙ ap (shaped (request_shape k)) (sym e) ∙ shaped_all)) tt)

-- ---- each order

module _ (c : ℕ) (t : Table) (whole : Whole t) (p : Bytes) (places : Ends) (kind : ℕ) (came : answer_of (read requests p) ≡ PA.found kind places) where
  abbrev x : Bytes
  x = argument_at p places 0

  abbrev y : Bytes
  y = argument_at p places 1

  abbrev z : Bytes
  z = argument_at p places 2

  low : kind < 37
  low = served_below p places kind came

  abbrev Orders : Plan → Type 0
  Orders q = Orderly q.order t p places kind x

  work_orders : (how : Work) (q : ℕ) → Forwards p places kind → Orders (plan_work (Some q) how (values_of t))
  unfolding plan_work
  work_orders tells q f = f
  work_orders reports q f = f
  work_orders ends q f = f
  work_orders throws q f = f

  -- a request of a handle's shape has one
  asks_handle : Handle ≡ request_shape kind → fits L.handle x ≡ true
  unfolding response_shape rules_of given fit_all
  asks_handle e =
      let f : Forwards p places 14 = read_forwards p places kind 14 came e in
      let g : given 1 x y z (argument_at p places 3) (argument_at p places 4) ≡ f.arguments = forward_given p places 14 f Handle 1 _ _ _ _ _ refl refl refl refl refl refl refl in
      and_left (fits L.handle x) true (ap (fit_all (L.handle ∷ [])) g ∙ (forward_sendable p places 14 f).fit)

  status_orders : (o : Option ℕ) → job_of t x ≡ o → fits L.handle x ≡ true → Orders (plan_status o)
  unfolding has_handle
  status_orders None e h = h
  status_orders (Some q) e h =
      let w = found (λ j. has_handle t.hub x j.row) no_job t.jobs (Some q) e in
      (omega (arith, w.inside, whole.jobs), and_left (live (job_at t q).row) _ w.passes, h)

  -- ---- every order

  change_orders : {a : Request} {ss : List Send} {u : Table} (m : Change c t a ss u) → Suits (words_given kind x y z) a → requested kind x y z ≡ a → Orders (plan_of c t m)
  unfolding plan_can_do plan_cant_do plan_grab plan_join response_shape shaped
  change_orders (able f q e) s i = zero-le
  change_orders (unknown f e) s i = zero-le
  change_orders (disabled f q e) s i = zero-le
  change_orders (identified j) s i = zero-le
  change_orders cleared s i = zero-le
  change_orders slept s i = zero-le
  change_orders (no_job_for uniq e) s i = zero-le
  change_orders (grabbed uniq q e) s i = (omega (arith, (best_found t c q e).0, whole.jobs), grabbed_live t c q e)
  change_orders (joins priority background f u size q e) s i = zero-le
  change_orders (accepts priority background f u size q r e₁ e₂ e₃ m) s i = zero-le
  change_orders (worker how k h n d q e) (for_work h' s) i = work_orders how q (work_forwards x y z p places kind kind how h n d came i)
  change_orders (status h o e) for_status i = status_orders o e (asks_handle (shape_of x y z kind low _ Handle i refl))
  change_orders (optioned name e) s i = zero-le
  change_orders echoed s i = read_forwards p places kind 17 came (shape_of x y z kind low echo Echo i refl)

  draws_orders : {a : Request} {q : Plan} {d : Decision} → Draws c t a q d → Suits (words_given kind x y z) a → requested kind x y z ≡ a → Orders q
  draws_orders (refused a n r) s i = zero-le
  draws_orders (done m) s i = change_orders m s i

  pub served_orderly : Orderly (plan_served c (requested kind x y z) t).order t p places kind x
  served_orderly = draws_orders (draws c t (requested kind x y z)) (request_suits kind x y z) refl
