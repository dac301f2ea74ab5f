-- What each type's request comes to, from what the searches find: the plan that the definitions have for it. Assumes nothing.
use Prim.Native.Nat.{ℕ, zero, suc, ◌+◌, ◌<◌, ◌≤◌}
use mathlib.Core.Path.{◌≡◌, refl, ap, sym, subst, ◌∙◌}
use mathlib.Core.Bool.{Bool, true, false}
use Rattle.std.specs.Prelude.{Option, Some, None}
use mathlib.Core.List.{[], ◌∷◌}
use mathlib.Core.Logic.{⊎_elim}
use native.Mathlib.Nat.{eq-or-lt_of_le}
use native.Mathlib.Omega.{arith}
use lib.ListN.{length}
use lib.Dec.{leb}
use types.Run.{OneOf}
use borrow.Author.Tests.{leb-true}
use Rattle.octets.specs.Bytes.{Bytes, same, within, zero_free}
use Rattle.octets.proofs.Strings.{and_left, and_right}
use Rattle.handle.specs.Handle.{serial_of}
use Rattle.packet.specs.declared.Ends.{Ends}
use Rattle.packet.specs.declared.Kind.{Kind}
use Rattle.packet.specs.declared.Rule.TheVariants.{Text}
use Rattle.packet.specs.declared.Shape.TheVariants.{Foreign}
use Rattle.packet.specs.Layout.{function, unique, is_own, kind_of, priority_of, request_shape}
use Rattle.packet.specs.Arguments.{fits}
use Rattle.packet.specs.Packet.{read, requests}
use Rattle.packet.specs.Answers.{answer_of, argument_at, found}
use Rattle.lists.specs.Lists.{find, numbers}
use Rattle.server.specs.Sizes.{connection_count, function_count}
use Rattle.server.specs.Table.{Table, known, room_for, joined, ables_of, rows_of, free_row, best_row, job_of}
use Rattle.server.specs.Requests.{Work, Request, work, requested, request_in}
use Rattle.server.specs.Requests as A
use Rattle.server.specs.Events.{exceptions_name, held_job_of}
use Rattle.server.specs.Layout.{table_of}
use Rattle.server.specs.Call.{is_sound}
use Rattle.plan.specs.declared.Step.TheVariants as SV
use Rattle.plan.specs.declared.Plan.{Plan}
use Rattle.plan.specs.declared.Values as V'
use Rattle.plan.specs.declared.Change.TheVariants as CV
use Rattle.plan.specs.declared.Order.TheVariants as OV
use Rattle.plan.specs.Values.{values_of, serial_row, held_row}
use Rattle.plan.specs.Plans.{sleeping_row, done, plan_can_do, plan_cant_do, plan_grab, plan_identify, plan_submit, plan_work, plan_status, plan_option, plan_served}
use Rattle.plan.proofs.Numbers.{serial_values, held_values, serial_none, held_none}
use Rattle.server_laws.proofs.Requests.{Good, Submitted}
use Rattle.lists.proofs.Rows.{clash}
use Rattle.server_laws.proofs.Functions as F
use Rattle.plan_find_texts.proofs.Names.{sound_table, sixteen}
use Rattle.plan_request.specs.Submissions.{Submits}
use Rattle.plan_request.proofs.Asks.{Each, each_of, asks, good_arguments, cant_do_fits, own_type}

-- ---- a text as its rule has it: a function's name, a unique

module _ (least most : ℕ) (s : Bytes) (e : fits (Text least most) s ≡ true) where
  sized : within least most (length s) ≡ true
  unfolding fits
  sized = and_left (within least most (length s)) (zero_free s) e

  pub text_some : least ≤ length s
  text_some = leb-true least (length s) (and_left (leb least (length s)) (leb (length s) most) sized)

  pub text_short : length s ≤ most
  text_short = leb-true (length s) most (and_right (leb least (length s)) (leb (length s) most) sized)

  pub text_free : zero_free s ≡ true
  unfolding fits
  text_free = and_right (within least most (length s)) (zero_free s) e

-- ---- places

-- the grab of the job that the search found
pub best_grabbed : (t : Table) (uniq : Bool) (c : ℕ) (p : Option ℕ) (r : Plan) → p ≡ best_row (ables_of t) (rows_of t) c → r ≡ plan_grab p uniq c (values_of t)
    → r ≡ plan_grab (best_row (ables_of t) (rows_of t) c) uniq c (values_of t)
best_grabbed t uniq c p r g h = h ∙ rw g

-- a function's place is one of the sixteen
pub room_inside : (b f : Bytes) (p : Option ℕ) → p ≡ room_for (table_of connection_count b).functions f → (q : ℕ) → p ≡ Some q → q < function_count
room_inside b f p e q h = omega (arith, sixteen b, (F.room (table_of connection_count b) f q (sym e ∙ h)).inside)

-- ---- jobs by handle: the handle's serial is looked for among the rows

-- the hub's name as the code takes it from the bytes
module _ (b hub h : Bytes) (is : hub ≡ (table_of connection_count b).hub) (sound : is_sound connection_count b ≡ true) where
  abbrev table : Table
  table = table_of connection_count b

  own : (r : Option ℕ) → serial_of hub h ≡ r → serial_of table.hub h ≡ r
  own r e = ap (λ (name : Bytes). serial_of name h) (sym is) ∙ e

  pub job_found : (s : ℕ) (p : Option ℕ) → serial_of hub h ≡ Some s → p ≡ serial_row s (rows_of table) → p ≡ job_of table h
  job_found s p e g = g ∙ sym (serial_values table h (sound_table b sound).small (sound_table b sound).below s (own (Some s) e))

  pub job_none : serial_of hub h ≡ None → None ≡ job_of table h
  job_none e = sym (serial_none table h (sound_table b sound).small (sound_table b sound).below (own None e))

  module _ (c : ℕ) where
    pub held_found : (s : ℕ) (p : Option ℕ) → serial_of hub h ≡ Some s → p ≡ held_row c s (rows_of table) → p ≡ held_job_of table c h
    held_found s p e g = g ∙ sym (held_values table h (sound_table b sound).small (sound_table b sound).below c s (own (Some s) e))

    pub held_nothing : serial_of hub h ≡ None → None ≡ held_job_of table c h
    held_nothing e = sym (held_none table h (sound_table b sound).small (sound_table b sound).below (own None e) c)

-- ---- names and sizes in a packet that was read

module _ (p : Bytes) (ends : Ends) (kind : ℕ) (e : answer_of (read requests p) ≡ found kind ends) where
  pub can_do_name : (f : Bytes) → kind ≡ 1 → f ≡ argument_at p ends 0 → fits function f ≡ true
  unfolding requested
  can_do_name f q g =
      rw g (subst (λ (k : ℕ). Good (requested k (argument_at p ends 0) (argument_at p ends 1) (argument_at p ends 2))) q (good_arguments p ends kind e))

  pub cant_do_name : (f : Bytes) → kind ≡ 2 → f ≡ argument_at p ends 0 → fits function f ≡ true
  cant_do_name f q g = rw g (cant_do_fits p ends (e ∙ ap (λ (k : ℕ). found k ends) q))

  module _ (submits : Submits kind) where
    submitted : Submitted (priority_of kind) (argument_at p ends 0) (argument_at p ends 1) (length (argument_at p ends 2))
    submitted = subst Good (submits _ _ _) (good_arguments p ends kind e)

    pub submission_name : (f : Bytes) → f ≡ argument_at p ends 0 → fits function f ≡ true
    submission_name f g = rw g submitted.function

    pub submission_unique : (u : Bytes) → u ≡ argument_at p ends 1 → fits unique u ≡ true
    submission_unique u g = rw g submitted.unique

    pub submission_size : (w : Bytes) → w ≡ argument_at p ends 2 → length w ≤ 1022
    submission_size w g = omega (arith, ap length g, submitted.together)

-- ---- which types are submissions, and which say something of a job

-- a statement of the n numbers from `low` on, from its proofs at each
in_run : (P : ℕ → Type 0) (low n : ℕ) → Each P (numbers low n) → (k : ℕ) → low ≤ k → k < low + n → P k
in_run P low zero ps k h l = absurd (omega arith)
in_run P low (suc n) ps k h l =
    ⊎_elim (λ q. subst P q ps.0) (λ g. in_run P (suc low) n ps.1 k g (omega arith)) (eq-or-lt_of_le h)

pub submits_one : (k : ℕ) → OneOf (7 ∷ 18 ∷ 21 ∷ []) k → Submits k
unfolding requested
submits_one = each_of Submits (7 ∷ 18 ∷ 21 ∷ []) ((λ a b d. refl), ((λ a b d. refl), ((λ a b d. refl), tt)))

pub submits_run : (k : ℕ) → 32 ≤ k → k < 35 → Submits k
unfolding requested
submits_run = in_run Submits 32 3 ((λ a b d. refl), ((λ a b d. refl), ((λ a b d. refl), tt)))

-- a request of this type says this of a job, whatever comes after the handle
abbrev Says : Work → ℕ → Type 0
Says how k = (a b d : Bytes) → requested k a b d ≡ work how k a [] []

-- ---- the plan of a request that was read

module _ (b p : Bytes) (c kind : ℕ) (ends : Ends) (e : answer_of (read requests p) ≡ found kind ends) where
  abbrev v : V'.Values
  v = values_of (table_of connection_count b)

  -- what the code must answer
  abbrev Answers : Plan → Type 0
  Answers r = r ≡ plan_served c (request_in p) (table_of connection_count b)

  abbrev argument : ℕ → Bytes
  argument i = argument_at p ends i

  -- the type has this number: what it asks computes
  typed : (k : ℕ) (r : Plan) → kind ≡ k → r ≡ plan_served c (requested k (argument 0) (argument 1) (argument 2)) (table_of connection_count b) → Answers r
  typed k r q g = g ∙ ap (λ (a : Request). plan_served c a (table_of connection_count b)) (sym (asks p ends kind e ∙ ap (λ (k : ℕ). requested k (argument 0) (argument 1) (argument 2)) q))

  -- a type that was read is served
  pub plan_foreign : (r : Plan) → Foreign ≡ request_shape kind → Answers r
  plan_foreign r q = clash (own_type p ends kind e) (ap is_own (sym q))

  pub plan_reset : (r : Plan) → kind ≡ 3 → r ≡ done (SV.Reset c) CV.Nothing OV.Nothing → Answers r
  unfolding requested plan_served
  plan_reset r q h = typed 3 r q h

  pub plan_identify_lem : (r : Plan) → kind ≡ 22 → r ≡ plan_identify c → Answers r
  unfolding requested plan_served
  plan_identify_lem r q h = typed 22 r q h

  pub plan_pre_sleep : (r : Plan) → kind ≡ 4 → r ≡ done (SV.Flags c (sleeping_row true c v)) CV.Nothing OV.Nothing → Answers r
  unfolding requested plan_served
  plan_pre_sleep r q h = typed 4 r q h

  pub plan_grab_lem : (r : Plan) → kind ≡ 9 → r ≡ plan_grab (best_row (ables_of (table_of connection_count b)) (rows_of (table_of connection_count b)) c) false c v → Answers r
  unfolding requested plan_served
  plan_grab_lem r q h = typed 9 r q h

  pub plan_grab_uniq : (r : Plan) → kind ≡ 30 → r ≡ plan_grab (best_row (ables_of (table_of connection_count b)) (rows_of (table_of connection_count b)) c) true c v → Answers r
  unfolding requested plan_served
  plan_grab_uniq r q h = typed 30 r q h

  pub plan_echo : (r : Plan) → kind ≡ 16 → r ≡ done SV.Nothing CV.Nothing OV.Echo → Answers r
  unfolding requested plan_served
  plan_echo r q h = typed 16 r q h

  module _ (first : Bytes) (ef : first ≡ argument 0) where
    pub plan_can_do_lem : (place : Option ℕ) (r : Plan) → kind ≡ 1 → place ≡ room_for (table_of connection_count b).functions first → r ≡ plan_can_do place c v → Answers r
    unfolding requested plan_served
    plan_can_do_lem place r q g h = typed 1 r q (h ∙ rw (g, ef))

    pub plan_cant_do_lem : (place : Option ℕ) (r : Plan) → kind ≡ 2 → place ≡ known (table_of connection_count b).functions first → r ≡ plan_cant_do place c v → Answers r
    unfolding requested plan_served
    plan_cant_do_lem place r q g h = typed 2 r q (h ∙ rw (g, ef))

    pub plan_option_lem : (served : Bool) (r : Plan) → kind ≡ 26 → served ≡ same first exceptions_name → r ≡ plan_option served c v → Answers r
    unfolding requested plan_served
    plan_option_lem served r q g h = typed 26 r q (h ∙ rw (g, ef))

    pub plan_status_lem : (place : Option ℕ) (r : Plan) → kind ≡ 15 → place ≡ job_of (table_of connection_count b) first → r ≡ plan_status place → Answers r
    unfolding requested plan_served
    plan_status_lem place r q g h = typed 15 r q (h ∙ rw (g, ef))

    -- what a worker says of its job, held by the connection at this place
    module _ (place : Option ℕ) (held : place ≡ held_job_of (table_of connection_count b) c first) (r : Plan) where
      plan_work_lem : (how : Work) (numerator denominator : Bytes) → requested kind (argument 0) (argument 1) (argument 2) ≡ work how kind (argument 0) numerator denominator
          → r ≡ plan_work place how v → Answers r
      unfolding plan_served
      plan_work_lem how numerator denominator q h =
          typed kind r refl (h ∙ rw (held, q, ef))

      pub plan_reports : kind ≡ 12 → r ≡ plan_work place A.reports v → Answers r
      unfolding requested
      plan_reports q = plan_work_lem A.reports (argument 1) (argument 2) (rw q)

      pub plan_throws : kind ≡ 25 → r ≡ plan_work place A.throws v → Answers r
      unfolding requested
      plan_throws q = plan_work_lem A.throws [] [] (rw q)

      pub plan_ends : 12 ≤ kind → (kind ≡ 12 → ⊥) → kind < 15 → r ≡ plan_work place A.ends v → Answers r
      unfolding requested
      plan_ends h n l = plan_work_lem A.ends [] [] (in_run (Says A.ends) 13 2 ((λ a b d. refl), ((λ a b d. refl), tt)) kind (omega arith) l (argument 0) (argument 1) (argument 2))

      pub plan_tells : 28 ≤ kind → kind < 30 → r ≡ plan_work place A.tells v → Answers r
      unfolding requested
      plan_tells h l = plan_work_lem A.tells [] [] (in_run (Says A.tells) 28 2 ((λ a b d. refl), ((λ a b d. refl), tt)) kind h l (argument 0) (argument 1) (argument 2))

  -- a submission, from the three places and the type's row
  pub plan_submit_lem : Submits kind → (f u w : Bytes) (joins room free : Option ℕ) (row : Kind) (r : Plan) → f ≡ argument 0 → u ≡ argument 1 → w ≡ argument 2 → row ≡ kind_of kind
      → joins ≡ (joined (table_of connection_count b) f u) → room ≡ (room_for (table_of connection_count b).functions f) → free ≡ (free_row (rows_of (table_of connection_count b)))
      → r ≡ plan_submit joins room free c row.priority row.background (length w) v → Answers r
  unfolding plan_served kind_of
  plan_submit_lem submits f u w joins room free row r ef eu ew er gj gr gf h =
      typed kind r refl (h ∙ rw (
        gj,
        gr,
        gf,
        submits,
        er,
        ef,
        eu,
        ew,
      ))
