-- One walk through the plans, beside the definitions: the plan of a request is a refusal where the request is refused, and the plan of
-- its change where it is done. What holds of every plan is then one clause for each case of `Change`. Assumes nothing.
use Prim.Native.Nat.{ℕ, suc}
use mathlib.Core.Path.{◌≡◌, refl}
use mathlib.Core.Bool.{Bool, true, false}
use Rattle.std.specs.Prelude.{Option, Some, None}
use mathlib.Core.List.{List}
use lib.Dec.{ltb}
use borrow.Author.Tests.{ltb-true}
use Rattle.octets.specs.Bytes.{Bytes, same}
use Rattle.server.specs.Table.{Table, known, room_for, best, free_place, joined}
use Rattle.server.specs.Requests.{Work, Request, reset, pre_sleep, echo, bad, can_do, cant_do, identify, grab, submit, work, get_status, option}
use Rattle.server.specs.Events.{Send, Decision, refuse, settle, can_do_at, cant_do_at, grab_at, submit_new, submit_to, work_at, status_at, exceptions_name, option_if, served, held_job_of}
use Rattle.server_laws.proofs.Outcome.{Change, able, unknown, disabled, identified, cleared, slept, no_job_for, grabbed, joins, accepts, worker, status, optioned, echoed, Refuses, unread, no_room, no_function, no_place, no_serial, not_held, no_option}
use Rattle.plan.specs.declared.Plan.{Plan}
use Rattle.plan.specs.declared.Step.TheVariants as SV
use Rattle.plan.specs.declared.Change.TheVariants as CV
use Rattle.plan.specs.declared.Order.TheVariants as OV
use Rattle.plan.specs.Values.{values_of}
use Rattle.plan.specs.Parts.{new_row}
use Rattle.plan.specs.Plans as P
use Rattle.plan.specs.Plans.{refusal, sleeping_row, plan_can_do, plan_cant_do, plan_grab, plan_new, plan_join, plan_submit, plan_work, plan_status, plan_option, plan_identify, plan_served}

module _ (c : ℕ) (t : Table) where
  -- the plan of a change
  abbrev pub plan_of : {a : Request} {ss : List Send} {u : Table} → Change c t a ss u → Plan
  plan_of (able f q e) = plan_can_do (Some q) c (values_of t)
  plan_of (unknown f e) = plan_cant_do None c (values_of t)
  plan_of (disabled f q e) = plan_cant_do (Some q) c (values_of t)
  plan_of (identified i) = plan_identify c
  plan_of cleared = P.done (SV.Reset c) CV.Nothing OV.Nothing
  plan_of slept = P.done (SV.Flags c (sleeping_row true c (values_of t))) CV.Nothing OV.Nothing
  plan_of (no_job_for uniq e) = plan_grab None uniq c (values_of t)
  plan_of (grabbed uniq p e) = plan_grab (Some p) uniq c (values_of t)
  plan_of (joins priority background f u size p e) = plan_join p c background (values_of t)
  plan_of (accepts priority background f u size q p e₁ e₂ e₃ m) =
      P.done (SV.New p (new_row c priority background q size (suc t.last))) (CV.Job p q) (OV.Created (suc t.last))
  plan_of (worker how kind h n d p e) = plan_work (Some p) how (values_of t)
  plan_of (status h o e) = plan_status o
  plan_of (optioned name e) = plan_option true c (values_of t)
  plan_of echoed = P.done SV.Nothing CV.Nothing OV.Echo

  -- a request, its plan, and what is decided
  pub data Draws : Request → Plan → Decision → Type 0 where
    refused : (a : Request) (n : ℕ) → Refuses c t a n → Draws a (refusal n) (refuse c n t)
    done : {a : Request} {ss : List Send} {u : Table} (m : Change c t a ss u) → Draws a (plan_of m) (settle ss u)

  -- ---- the walk

  d_can_do : (f : Bytes) (o : Option ℕ) → room_for t.functions f ≡ o → Draws (can_do f) (plan_can_do o c (values_of t)) (can_do_at o c f t)
  unfolding can_do_at plan_can_do
  d_can_do f None e = refused _ _ (no_room f e)
  d_can_do f (Some q) e = done (able f q e)

  d_cant_do : (f : Bytes) (o : Option ℕ) → known t.functions f ≡ o → Draws (cant_do f) (plan_cant_do o c (values_of t)) (cant_do_at o c t)
  unfolding cant_do_at
  d_cant_do f None e = done (unknown f e)
  d_cant_do f (Some q) e = done (disabled f q e)

  d_work : (how : Work) (kind : ℕ) (h n d : Bytes) (o : Option ℕ) → held_job_of t c h ≡ o
      → Draws (work how kind h n d) (plan_work o how (values_of t)) (work_at o how kind c n d t)
  unfolding work_at plan_work
  d_work how kind h n d None e = refused _ _ (not_held how kind h n d e)
  d_work how kind h n d (Some p) e = done (worker how kind h n d p e)

  d_option : (name : Bytes) (b : Bool) → same name exceptions_name ≡ b → Draws (option name) (plan_option b c (values_of t)) (option_if b c name t)
  unfolding option_if
  d_option name false e = refused _ _ (no_option name e)
  d_option name true e = done (optioned name e)

  module _ (priority : ℕ) (background : Bool) (f u : Bytes) (size : ℕ) where
    abbrev asks : Request
    asks = submit priority background f u size

    d_last : (q p : ℕ) → joined t f u ≡ None → room_for t.functions f ≡ Some q → free_place t ≡ Some p → (b : Bool) → ltb t.last 4294967295 ≡ b
        → Draws asks (plan_new (Some q) (Some p) c priority background size (values_of t)) (submit_new (Some q) (Some p) c priority background f u size t)
    unfolding submit_new plan_new values_of
    d_last q p j e g true h = rw h (done (accepts priority background f u size q p j e g (ltb-true t.last 4294967295 h)))
    d_last q p j e g false h = rw h (refused _ _ (no_serial priority background f u size q p j e g h))

    d_new : joined t f u ≡ None → (o r : Option ℕ) → room_for t.functions f ≡ o → free_place t ≡ r
        → Draws asks (plan_new o r c priority background size (values_of t)) (submit_new o r c priority background f u size t)
    unfolding submit_new plan_new
    d_new j None r e g = refused _ _ (no_function priority background f u size j e)
    d_new j (Some q) None e g = refused _ _ (no_place priority background f u size q j e g)
    d_new j (Some q) (Some p) e g = d_last q p j e g _ refl

    d_submit : (o : Option ℕ) → joined t f u ≡ o
        → Draws asks (plan_submit o (room_for t.functions f) (free_place t) c priority background size (values_of t)) (submit_to o c priority background f u size t)
    unfolding submit_to plan_submit
    d_submit None e = d_new e (room_for t.functions f) (free_place t) refl refl
    d_submit (Some p) e = done (joins priority background f u size p e)

  d_grab : (uniq : Bool) (o : Option ℕ) → best t c ≡ o → Draws (grab uniq) (plan_grab o uniq c (values_of t)) (served c (grab uniq) t)
  unfolding served grab_at
  d_grab uniq None e = rw e (done (no_job_for uniq e))
  d_grab uniq (Some p) e = rw e (done (grabbed uniq p e))

  pub draws : (a : Request) → Draws a (plan_served c a t) (served c a t)
  unfolding served plan_served status_at
  draws (bad n) = refused _ _ (unread n)
  draws (can_do f) = d_can_do f (room_for t.functions f) refl
  draws (cant_do f) = d_cant_do f (known t.functions f) refl
  draws (identify i) = done (identified i)
  draws reset = done cleared
  draws pre_sleep = done slept
  draws (grab uniq) = d_grab uniq (best t c) refl
  draws (submit priority background f u size) = d_submit priority background f u size (joined t f u) refl
  draws (work how kind h n d) = d_work how kind h n d _ refl
  draws (get_status h) = done (status h _ refl)
  draws (option name) = d_option name _ refl
  draws echo = done echoed
