-- Laws of the writer's refusals: the answer at each return, and what is known where there is none. Assumes nothing.
use Prim.Native.Nat.{ℕ, zero, suc, ◌+◌, ◌<◌, ◌≤◌, min}
use mathlib.Core.Path.{◌≡◌, refl, sym, ◌∙◌}
use mathlib.Core.Bool.{Bool, true, false, not, cond}
use mathlib.Core.List.{List}
use native.Mathlib.Omega.{arith}
use borrow.Author.Tests.{lt-ltb, le-ltb, ltb-false}
use lib.ListN.{length}
use lib.Dec.{ltb}
use Rattle.std.specs.Prelude.{Result, Ok, Err}
use Rattle.octets.specs.Bytes.{Bytes}
use Rattle.packet.specs.declared.Refusal.{Refusal}
use Rattle.packet.specs.declared.Refusal.TheVariants.{LittleRoom, Size, ForeignType, Arguments}
use Rattle.packet.specs.declared.Shape.{Shape}
use Rattle.packet.specs.Layout.{is_own, rules_of}
use Rattle.packet.specs.Arguments.{fit_all, join}
use Rattle.packet.specs.Packet.{write_refusal}
use Rattle.packet.specs.Answers.{granted}

-- the tests in their order: `own`, `fit` and `size` are what the code finds of the type, the arguments and their data
module _ (most room : ℕ) (shape : Shape) (as' : List Bytes) (own : Bool) (eo : own ≡ is_own shape) where
  pub foreign : not own ≡ true → Err ForeignType ≡ granted (write_refusal most room shape as') (length (join as'))
  unfolding write_refusal
  foreign h = simp (← eo, h)

  module _ (ho : not own ≡ false) (fit : Bool) (ef : fit ≡ fit_all (rules_of shape) as') where
    pub unfit : not fit ≡ true → Err Arguments ≡ granted (write_refusal most room shape as') (length (join as'))
    unfolding write_refusal
    unfit h = simp (← eo, ho, ← ef, h)

    module _ (hf : not fit ≡ false) (size : ℕ) (es : size ≡ min 65536 (length (join as'))) (hm : most ≤ 1088) where
      pub too_much : most < size → Err Size ≡ granted (write_refusal most room shape as') (length (join as'))
      unfolding write_refusal
      too_much h = simp (← eo, ho, ← ef, hf, lt-ltb most (length (join as')) (omega arith))

      module _ (hs : size ≤ most) where
        within_most : ltb most (length (join as')) ≡ false
        within_most = le-ltb most (length (join as')) (omega arith)

        pub too_short : room < 12 + size → Err LittleRoom ≡ granted (write_refusal most room shape as') (length (join as'))
        unfolding write_refusal
        too_short h = simp (← eo, ho, ← ef, hf, within_most, lt-ltb room (12 + length (join as')) (omega arith))

        pub no_refusal : 12 + size ≤ room → Ok size ≡ granted (write_refusal most room shape as') (length (join as'))
        unfolding write_refusal
        no_refusal h =
            let q : size ≡ length (join as') = omega arith in
            simp (← eo, ho, ← ef, hf, within_most, le-ltb room (12 + length (join as')) (omega arith), q)

tests_passed : (own fit much short : Bool) → ◌≡◌ {A = ℕ} (cond (not own) 9 (cond (not fit) 10 (cond much 7 (cond short 1 0)))) 0
    → (much ≡ false) × (short ≡ false)
tests_passed false fit much short e = absurd (omega arith)
tests_passed true false much short e = absurd (omega arith)
tests_passed true true true short e = absurd (omega arith)
tests_passed true true false true e = absurd (omega arith)
tests_passed true true false false e = (refl, refl)

granted_is : (n x size : ℕ) → Ok size ≡ granted n x → (n ≡ 0) × (size ≡ x)
granted_is zero x size e = let q : size ≡ x = cc in (refl, q)
granted_is (suc n) x size e = let z : ◌≡◌ {A = ℕ} 0 1 = cc in absurd (omega arith)

-- what is known where the data's length is granted
module _ (most room : ℕ) (shape : Shape) (as' : List Bytes) (size : ℕ) (e : Ok size ≡ granted (write_refusal most room shape as') (length (join as'))) where
  pub unrefused : write_refusal most room shape as' ≡ 0
  unrefused = (granted_is _ _ _ e).0

  pub size_is : size ≡ length (join as')
  size_is = (granted_is _ _ _ e).1

  passed : (ltb most (length (join as')) ≡ false) × (ltb room (12 + length (join as')) ≡ false)
  unfolding write_refusal
  passed = tests_passed (is_own shape) (fit_all (rules_of shape) as') _ _ (granted_is _ _ _ e).0

  pub size_small : most ≤ 1088 → size ≤ 1088
  size_small h = omega (arith, size_is, ltb-false most (length (join as')) passed.0)

  pub size_fits : 12 + size ≤ room
  size_fits = omega (arith, size_is, ltb-false room (12 + length (join as')) passed.1)
