-- `carry_event::opaque_place` meets its contract: each shape of an arm has its opaque argument where the arm says, and a shape of no
-- arm has none. Assumes nothing.
use mathlib.Core.Path.{◌≡◌, refl}
use mathlib.Core.Logic.{◌⊎◌, inl, inr}
use native.Mathlib.Omega.{arith}
use Rattle.packet.specs.declared.Shape.{Shape}
use Rattle.packet.specs.declared.Shape.TheVariants.{Foreign, Empty, Function, Submission, WorkStatus, WorkData, Handle, Echo, OptionName, ClientId, Assignment, UniqueAssignment, Error, StatusAnswer}
use Rattle.packet.specs.Layout.{rules_of}
use Rattle.carry_event.specs.Concluded.{opaque_place}
use Rattle.carry_event.proofs.opaque_place.Goals as goal

-- a shape of no arm has no opaque argument
other_place : (s : Shape) → (s ≡ Echo → ⊥) → (s ≡ WorkData → ⊥) → (s ≡ Submission → ⊥) → (s ≡ Assignment → ⊥) → (s ≡ UniqueAssignment → ⊥) → opaque_place s ≡ 5
unfolding opaque_place rules_of
other_place Foreign a b c d e = refl
other_place Empty a b c d e = refl
other_place Function a b c d e = refl
other_place Submission a b c d e = absurd (c refl)
other_place WorkStatus a b c d e = refl
other_place WorkData a b c d e = absurd (b refl)
other_place Handle a b c d e = refl
other_place Echo a b c d e = absurd (a refl)
other_place OptionName a b c d e = refl
other_place ClientId a b c d e = refl
other_place Assignment a b c d e = absurd (d refl)
other_place UniqueAssignment a b c d e = absurd (e refl)
other_place Error a b c d e = refl
other_place StatusAnswer a b c d e = refl

-- the workload of a submission stands where that of an assignment does
third_place : (s : Shape) → (s ≡ Submission) ⊎ (s ≡ Assignment) → 2 ≡ opaque_place s
unfolding opaque_place rules_of
third_place s (inl e) = rw e
third_place s (inr e) = rw e

pub returns-in-Echo : goal.returns-in-Echo
unfolding opaque_place rules_of
returns-in-Echo c = (omega arith, rw c.in-Echo.is)

pub returns-in-WorkData : goal.returns-in-WorkData
unfolding opaque_place rules_of
returns-in-WorkData c = (omega arith, rw c.in-WorkData.is)

pub returns-in-Submission : goal.returns-in-Submission
returns-in-Submission c = (omega arith, third_place _ c.in-Submission.is)

pub returns-in-UniqueAssignment : goal.returns-in-UniqueAssignment
unfolding opaque_place rules_of
returns-in-UniqueAssignment c = (omega arith, rw c.in-UniqueAssignment.is)

pub returns-in_default : goal.returns-in_default
returns-in_default c =
    let d = c.in_default in
    other_place _ d.not-Echo d.not-WorkData d.not-Submission d.not-Assignment d.not-UniqueAssignment
