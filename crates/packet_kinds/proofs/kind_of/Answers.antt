-- `packet_kinds::kind_of` meets its contract. The table of src/ computes to the list of what the layout says of the numbers 0 to 36, so a
-- number's entry is what it says of that number; beyond them it says of each number what row 0 says. Assumes nothing.
use Prim.Native.Nat.{ℕ, ◌<◌, ◌≤◌}
use mathlib.Core.Path.{◌≡◌, refl, ap, ◌∙◌}
use mathlib.Core.Bool.{Bool, false, ◌||◌}
use mathlib.Core.List.{List, [], ◌∷◌}
use native.Mathlib.Omega.{arith}
use borrow.Author.Tests.{ne_eqb}
use lib.Dec.{T, leb, leb→le}
use lib.ListN.{get_or-eq_default}
use mir.Facts.{and_yes}
use Rattle.packet.specs.Layout.{kind_of, request_shape, response_shape, rules_of, priority_of, background_of, served, sent, one_of}
use Rattle.packet.specs.declared.Kind.{Kind}
use Rattle.packet.specs.declared.Shape.TheVariants.{Foreign}
use Rattle.packet_kinds.proofs.Tests.{each, entry}
use Rattle.packet_kinds.proofs.kind_of.Goals as goal

-- a number beyond the table is none of a list of numbers within it
none_of : (ks : List ℕ) → T (each (λ k. leb k 36) ks) → (kind : ℕ) → 36 < kind → one_of ks kind ≡ false
none_of [] t kind h = refl
none_of (k ∷ ks) t kind h =
    let both = and_yes (leb k 36) (each (λ k. leb k 36) ks) t in
    let within : k ≤ 36 = leb→le k 36 both.0 in
    ap (λ (b : Bool). b || one_of ks kind) (ne_eqb k kind (λ e. omega arith)) ∙ none_of ks both.1 kind h

-- row 0: no type
abbrev no_kind : Kind
no_kind = record { served = false; sent = false; separators = 0; priority = 0; background = false }

-- what the layout says beyond the table: no type
beyond : (kind : ℕ) → 36 < kind → no_kind ≡ kind_of kind
unfolding kind_of request_shape response_shape rules_of priority_of background_of
beyond kind h =
    rw (
      get_or-eq_default served Foreign {n = kind} h,
      get_or-eq_default sent Foreign {n = kind} h,
      none_of (21 ∷ 32 ∷ []) tt kind h,
      none_of (7 ∷ 18 ∷ []) tt kind h,
      none_of (18 ∷ 32 ∷ 34 ∷ []) tt kind h,
    )

pub returns-then-kind-gt36 : goal.returns-then-kind-gt36
returns-then-kind-gt36 c = beyond c.args.kind c.if-kind-gt36.true

pub returns : goal.returns
unfolding kind_of request_shape response_shape rules_of priority_of background_of
returns c = entry kind_of 37 c.args.kind no_kind (omega arith)
