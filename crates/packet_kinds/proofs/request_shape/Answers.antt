-- `packet_kinds::request_shape` meets its contract: a computed test shows that each arm gives the shape that the layout has at each of the
-- arm's numbers, and beyond the layout's list no number is a type. Assumes nothing.
use Prim.Native.Nat.{ℕ}
use mathlib.Core.List.{List, [], ◌∷◌}
use native.Mathlib.Omega.{arith}
use Rattle.packet.specs.Layout.{request_shape, served}
use Rattle.packet.specs.declared.Shape.TheVariants.{Foreign}
use Rattle.packet_kinds.proofs.Tests.{key_arm, range_arm, last_arm}
use Rattle.packet_kinds.proofs.Shapes.{shapes}
use Rattle.packet_kinds.proofs.request_shape.Goals as goal

-- the arms' single numbers, the last arm first
abbrev keys : List (List ℕ)
keys = (26 ∷ []) ∷ (22 ∷ []) ∷ (16 ∷ []) ∷ (13 ∷ 25 ∷ []) ∷ (12 ∷ []) ∷ (7 ∷ 18 ∷ 21 ∷ []) ∷ (9 ∷ 30 ∷ []) ∷ []

pub returns-in-12 : goal.returns-in-12
unfolding request_shape
returns-in-12 c = key_arm shapes request_shape (12 ∷ []) tt _ c.in-12.is

pub returns-in-16 : goal.returns-in-16
unfolding request_shape
returns-in-16 c = key_arm shapes request_shape (16 ∷ []) tt _ c.in-16.is

pub returns-in-22 : goal.returns-in-22
unfolding request_shape
returns-in-22 c = key_arm shapes request_shape (22 ∷ []) tt _ c.in-22.is

pub returns-in-26 : goal.returns-in-26
unfolding request_shape
returns-in-26 c = key_arm shapes request_shape (26 ∷ []) tt _ c.in-26.is

pub returns-in-1-to-2 : goal.returns-in-1-to-2
unfolding request_shape
returns-in-1-to-2 c = range_arm shapes request_shape keys 1 2 tt _ c.in-1-to-2.in_default-own.rest (omega arith) (omega arith)

pub returns-in-14-to-15 : goal.returns-in-14-to-15
unfolding request_shape
returns-in-14-to-15 c = range_arm shapes request_shape keys 12 4 tt _ c.in-14-to-15.in_default-own.rest (omega arith) (omega arith)

pub returns-in_default : goal.returns-in_default
unfolding request_shape
returns-in_default c = range_arm shapes request_shape keys 0 1 tt _ c.in_default.in_default-own.rest (omega arith) (omega arith)

pub returns-in_default-2 : goal.returns-in_default-2
unfolding request_shape
returns-in_default-2 c = range_arm shapes request_shape keys 5 7 tt _ c.in_default.in_default-own.rest (omega arith) (omega arith)

pub returns-in_default-3 : goal.returns-in_default-3
unfolding request_shape
returns-in_default-3 c = range_arm shapes request_shape keys 16 12 tt _ c.in_default.in_default-own.rest (omega arith) (omega arith)

pub returns-in_default-4 : goal.returns-in_default-4
unfolding request_shape
returns-in_default-4 c = range_arm shapes request_shape keys 30 2 tt _ c.in_default.in_default-own.rest (omega arith) (omega arith)

pub returns-in_default-5 : goal.returns-in_default-5
unfolding request_shape
returns-in_default-5 c = last_arm shapes served Foreign keys 35 tt _ c.in_default.in_default-own.rest (omega arith)

pub returns-in-13 : goal.returns-in-13
unfolding request_shape
returns-in-13 c = key_arm shapes request_shape (13 ∷ 25 ∷ []) tt _ c.in-13.in-13-own.keys4

pub returns-in-13-2 : goal.returns-in-13-2
unfolding request_shape
returns-in-13-2 c = range_arm shapes request_shape keys 28 2 tt _ c.in-13.in_default-own.rest (omega arith) (omega arith)

pub returns-in-7 : goal.returns-in-7
unfolding request_shape
returns-in-7 c = key_arm shapes request_shape (7 ∷ 18 ∷ 21 ∷ []) tt _ c.in-7.in-7-own.keys2

pub returns-in-7-2 : goal.returns-in-7-2
unfolding request_shape
returns-in-7-2 c = range_arm shapes request_shape keys 32 3 tt _ c.in-7.in_default-own.rest (omega arith) (omega arith)

pub returns-in-3-to-4 : goal.returns-in-3-to-4
unfolding request_shape
returns-in-3-to-4 c = key_arm shapes request_shape (9 ∷ 30 ∷ []) tt _ c.in-3-to-4.in-3-to-4-own.keys1

pub returns-in-3-to-4-2 : goal.returns-in-3-to-4-2
unfolding request_shape
returns-in-3-to-4-2 c = range_arm shapes request_shape keys 3 2 tt _ c.in-3-to-4.in_default-own.rest (omega arith) (omega arith)
