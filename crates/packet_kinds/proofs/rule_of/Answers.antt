-- `packet_kinds::rule_of` meets its contract: no shape has more than five arguments, so from place 5 on each is absent; and before it the
-- padded list has a shape's rule, or absent where it has none. Assumes nothing.
use Prim.Native.Nat.{ℕ, zero, suc, ◌<◌}
use mathlib.Core.Path.{◌≡◌, refl, sym, ap, ◌∙◌}
use mathlib.Core.List.{List, [], ◌∷◌, ◌++◌}
use native.Mathlib.Omega.{arith}
use lib.ListN.{get_or, replicate, get_or-replicate, get_or-eq_default}
use lib.Seq.{get_or-take}
use Rattle.packet.specs.Layout.{padded, rules_of}
use Rattle.packet.specs.declared.Rule.{Rule}
use Rattle.packet.specs.declared.Rule.TheVariants.{Absent, Text}
use Rattle.packet_kinds.proofs.Shapes.{at_most_five}
use Rattle.packet_kinds.proofs.rule_of.Goals as goal

-- a list with n a's after it: each of the first n places that the list itself has not is an a
extended : {A : Type 0} (n : ℕ) (xs : List A) (i : ℕ) (a d : A) → i < n → get_or (xs ++ replicate n a) i d ≡ get_or xs i a
extended n [] i a d h = get_or-replicate n i a d h
extended n (x ∷ xs) zero a d h = refl
extended n (x ∷ xs) (suc i) a d h = extended n xs i a d (omega arith)

padded_place : (rs : List Rule) (i : ℕ) (d : Rule) → i < 5 → get_or (padded rs) i d ≡ get_or rs i Absent
unfolding padded
padded_place rs i d h = get_or-take 5 (rs ++ replicate 5 Absent) i d h ∙ extended 5 rs i Absent d h

pub returns-then-i-ge5 : goal.returns-then-i-ge5
returns-then-i-ge5 c =
    sym (get_or-eq_default (rules_of c.args.shape) Absent (omega (arith, at_most_five c.args.shape)))

pub returns : goal.returns
returns c =
    ap (λ (l : List Rule). get_or l c.args.i (Text 0 0)) c.rules-all.ensures
    ∙ padded_place (rules_of c.args.shape) c.args.i (Text 0 0) (omega arith)
