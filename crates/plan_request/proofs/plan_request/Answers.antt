-- `plan_request::plan_request` meets its contract: each arm of the match has the plan of what its types ask, and a type of no arm
-- was not read. Assumes nothing.
use Prim.Native.Nat.{ℕ, zero-le}
use mathlib.Core.List.{List, [], ◌∷◌}
use mathlib.Core.Logic.{⊎_elim}
use borrow.Author.Rules.{rules}
use Rattle.packet.specs.declared.Shape.TheVariants.{Foreign}
use Rattle.packet.specs.Layout.{request_shape, served}
use Rattle.packet_kinds.proofs.Tests.{range_arm, last_arm}
use Rattle.packet_kinds.proofs.Shapes.{shapes}
use Rattle.plan_request.proofs.Planned.{text_short, text_free, can_do_name, cant_do_name, submits_one, submits_run, plan_foreign, plan_can_do_lem, plan_cant_do_lem, plan_reset, plan_identify_lem, plan_pre_sleep, plan_grab_lem, plan_grab_uniq, plan_echo, plan_option_lem, plan_status_lem, plan_reports, plan_ends, plan_throws, plan_tells}
use Rattle.plan_request.proofs.plan_request.Goals as goal

-- the arms' single numbers, the last arm first
abbrev keys : List (List ℕ)
keys =
    (30 ∷ []) ∷ (26 ∷ []) ∷ (25 ∷ []) ∷ (22 ∷ []) ∷ (16 ∷ []) ∷ (15 ∷ []) ∷ (12 ∷ []) ∷ (9 ∷ []) ∷ (7 ∷ 18 ∷ 21 ∷ []) ∷ (4 ∷ []) ∷ (3 ∷ []) ∷ (2 ∷ []) ∷ (1 ∷ []) ∷ []

pub room_for-requires : goal.room_for-requires
room_for-requires c = search (rules, text_short 1 32, text_free 1 32, can_do_name)

pub known-requires : goal.known-requires
known-requires c = search (rules, text_short 1 32, text_free 1 32, cant_do_name)

pub returns-in-1 : goal.returns-in-1
returns-in-1 c = search (rules, plan_can_do_lem)

pub returns-in-2 : goal.returns-in-2
returns-in-2 c = search (rules, plan_cant_do_lem)

pub returns-in-3 : goal.returns-in-3
returns-in-3 c = search (rules, plan_reset)

pub returns-in-4 : goal.returns-in-4
returns-in-4 c = search (rules, plan_pre_sleep)

pub returns-in-9 : goal.returns-in-9
returns-in-9 c = search (rules, plan_grab_lem)

pub returns-in-12 : goal.returns-in-12
returns-in-12 c = search (rules, plan_reports)

pub returns-in-15 : goal.returns-in-15
returns-in-15 c = search (rules, plan_status_lem)

pub returns-in-16 : goal.returns-in-16
returns-in-16 c = search (rules, plan_echo)

pub returns-in-22 : goal.returns-in-22
returns-in-22 c = search (rules, plan_identify_lem)

pub returns-in-25 : goal.returns-in-25
returns-in-25 c = search (rules, plan_throws)

pub returns-in-26 : goal.returns-in-26
returns-in-26 c = search (rules, plan_option_lem)

pub returns-in-30 : goal.returns-in-30
returns-in-30 c = search (rules, plan_grab_uniq)

pub returns-in-13-to-14 : goal.returns-in-13-to-14
returns-in-13-to-14 c = search (rules, plan_ends)

pub returns-in-28-to-29 : goal.returns-in-28-to-29
returns-in-28-to-29 c = search (rules, plan_tells)

pub returns-in_default : goal.returns-in_default
unfolding request_shape
returns-in_default c =
    plan_foreign c.args.table.now c.args.packet.now _ _ _ c.requires.3 _
    (⊎_elim
    (λ a. range_arm shapes request_shape keys 0 12 tt _ c.in_default-1.rest zero-le a.if-kind-lt12-1.true)
    (⊎_elim
    (λ a. range_arm shapes request_shape keys 15 13 tt _ c.in_default-1.rest a.if-kind-lt15-1.false a.if-kind-lt28-1.true)
    (⊎_elim
    (λ a. range_arm shapes request_shape keys 30 2 tt _ c.in_default-1.rest a.if-kind-lt30-1.false a.if-kind-lt32-1.true)
    (λ a. last_arm shapes served Foreign keys 35 tt _ c.in_default-1.rest a.if-kind-lt35-1.false)))
    c.in_default.branch-raw)

pub submit-requires : goal.submit-requires
submit-requires c =
    let submits = ⊎_elim (λ one. submits_one _ one.in-7-1.keys5) (λ run. submits_run _ run.if-kind-lt32-1.false run.if-kind-lt35-1.true) c.in-7-1.branch-raw in
    (c.requires.0, c.requires.1, c.requires.2, c.requires.3, submits)
