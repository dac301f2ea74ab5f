-- `packet_kinds::response_shape` meets its contract: a computed test shows that each arm gives the shape that the layout has at each of the
-- arm's numbers, and beyond the layout's list no number is a type. Assumes nothing.
use Prim.Native.Nat.{ℕ, zero-le}
use mathlib.Core.List.{List, [], ◌∷◌}
use Rattle.packet.specs.Layout.{response_shape, sent}
use Rattle.packet.specs.declared.Shape.TheVariants.{Foreign}
use Rattle.packet_kinds.proofs.Tests.{key_arm, range_arm, last_arm}
use Rattle.packet_kinds.proofs.Shapes.{shapes}
use Rattle.packet_kinds.proofs.response_shape.Goals as goal

-- the arms' single numbers, the last arm first
abbrev keys : List (List ℕ)
keys = (31 ∷ []) ∷ (27 ∷ []) ∷ (20 ∷ []) ∷ (19 ∷ []) ∷ (17 ∷ []) ∷ (13 ∷ 25 ∷ []) ∷ (12 ∷ []) ∷ (11 ∷ []) ∷ (8 ∷ 14 ∷ []) ∷ (6 ∷ 10 ∷ []) ∷ []

pub returns-in-6 : goal.returns-in-6
unfolding response_shape
returns-in-6 c = key_arm shapes response_shape (6 ∷ 10 ∷ []) tt _ c.in-6.is

pub returns-in-8 : goal.returns-in-8
unfolding response_shape
returns-in-8 c = key_arm shapes response_shape (8 ∷ 14 ∷ []) tt _ c.in-8.is

pub returns-in-11 : goal.returns-in-11
unfolding response_shape
returns-in-11 c = key_arm shapes response_shape (11 ∷ []) tt _ c.in-11.is

pub returns-in-12 : goal.returns-in-12
unfolding response_shape
returns-in-12 c = key_arm shapes response_shape (12 ∷ []) tt _ c.in-12.is

pub returns-in-17 : goal.returns-in-17
unfolding response_shape
returns-in-17 c = key_arm shapes response_shape (17 ∷ []) tt _ c.in-17.is

pub returns-in-19 : goal.returns-in-19
unfolding response_shape
returns-in-19 c = key_arm shapes response_shape (19 ∷ []) tt _ c.in-19.is

pub returns-in-20 : goal.returns-in-20
unfolding response_shape
returns-in-20 c = key_arm shapes response_shape (20 ∷ []) tt _ c.in-20.is

pub returns-in-27 : goal.returns-in-27
unfolding response_shape
returns-in-27 c = key_arm shapes response_shape (27 ∷ []) tt _ c.in-27.is

pub returns-in-31 : goal.returns-in-31
unfolding response_shape
returns-in-31 c = key_arm shapes response_shape (31 ∷ []) tt _ c.in-31.is

pub returns-in_default : goal.returns-in_default
unfolding response_shape
returns-in_default c = range_arm shapes response_shape keys 0 27 tt _ c.in_default.in_default-own.rest zero-le c.in_default.if-kind-lt27-own.true

pub returns-in_default-2 : goal.returns-in_default-2
unfolding response_shape
returns-in_default-2 c = last_arm shapes sent Foreign keys 30 tt _ c.in_default.in_default-own.rest c.in_default.if-kind-lt30-own.false

pub returns-in-13 : goal.returns-in-13
unfolding response_shape
returns-in-13 c = key_arm shapes response_shape (13 ∷ 25 ∷ []) tt _ c.in-13.in-13-own.keys5

pub returns-in-13-2 : goal.returns-in-13-2
unfolding response_shape
returns-in-13-2 c = range_arm shapes response_shape keys 27 3 tt _ c.in-13.in_default-own.rest c.in-13.if-kind-lt27-own.false c.in-13.if-kind-lt30-own.true
