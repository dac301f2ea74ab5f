-- Laws of splitting: what each return of the readers answers, from what the code has found by then. Assumes nothing.
use Prim.Native.Nat.{ℕ, suc, ◌+◌, ◌-◌, ◌<◌, ◌≤◌}
use mathlib.Core.Path.{◌≡◌, refl, sym, ap, ◌∙◌}
use mathlib.Core.Bool.{Bool, true, false, not, cond, ◌&&◌}
use mathlib.Core.List.{List, [], ◌∷◌}
use native.Mathlib.Numerals.{add-one}
use native.Mathlib.Omega.{arith}
use borrow.Author.Tests.{lt-ltb, le-ltb, not-true, not-false}
use lib.ListN.{length, get_or, take, drop, drop_of_length-le}
use lib.Seq.{drop-cons, length-take-le}
use lib.Dec.{ltb}
use Rattle.octets.specs.Bytes.{Bytes, first_zero}
use Rattle.octets.proofs.Strings.{rest_part}
use Rattle.packet.specs.declared.Rule.{Rule}
use Rattle.packet.specs.declared.Rule.TheVariants.{Absent}
use Rattle.packet.specs.declared.Ends.{Ends}
use Rattle.packet.specs.Arguments.{Parts, bad, parts, fits, front, split, ends_of, answered, before_ends}
use Rattle.std.specs.Prelude.{Option, Some, None}

-- ---- the last argument

module _ (rule : Rule) (at : ℕ) (d : Bytes) (r : Bool) (e : r ≡ fits rule d) where
  pub last_unfit : not r ≡ true → None ≡ answered at (split (rule ∷ []) d)
  unfolding split
  last_unfit h = rw (sym e ∙ not-true r h)

  pub last_fit : not r ≡ false → Some (record { first = at + length d; second = 0; third = 0; fourth = 0; fifth = 0 }) ≡ answered at (split (rule ∷ []) d)
  unfolding split ends_of
  last_fit h = rw (sym e ∙ not-false r h)

-- ---- an argument and those after it

-- the ends of the rest, if it splits, with the end of one more argument before them
abbrev pub with_end : ℕ → Option Ends → Option Ends
with_end end None = None
with_end end (Some e) = Some (before_ends end e)

-- the answer for one more argument: its end, and then the ends of the others
pub answered_front : (at : ℕ) (a : Bytes) (p : Parts) → with_end (at + length a) (answered (at + length a + 1) p) ≡ answered at (front a p)
unfolding ends_of
answered_front at a bad = refl
answered_front at a (parts as') = refl

module _ (rs : List Rule) (i at : ℕ) (d : Bytes) (inside : i < length rs) (rule : Rule) (is : rule ≡ get_or rs i Absent) where
  -- the rule is the last one
  pub from_last : (count : ℕ) (r : Option Ends) → count ≡ length rs → i + 1 ≡ count → r ≡ answered at (split (rule ∷ []) d) → r ≡ answered at (split (drop i rs) d)
  from_last count r q e h =
      let rest : drop (suc i) rs ≡ [] = drop_of_length-le rs {i = suc i} (omega arith) in
      h ∙ ap (λ (l : List Rule). answered at (split l d)) (sym (drop-cons rs i Absent inside ∙ rw (rest, ← is)))

  -- others follow it
  module _ (count : ℕ) (q : count ≡ length rs) (n : i + 1 ≡ count → ⊥) (end : ℕ) (z : end ≡ first_zero d) where
    more : List Rule
    more = drop (suc (suc i)) rs

    opened : drop i rs ≡ rule ∷ (get_or rs (suc i) Absent ∷ more)
    unfolding more
    opened = drop-cons rs i Absent inside ∙ rw (← is, drop-cons rs (suc i) Absent (omega arith))

    stepped : answered at (split (drop i rs) d)
        ≡ answered at (cond (ltb end (length d) && fits rule (take end d)) (front (take end d) (split (drop (suc i) rs) (drop (end + 1) d))) bad)
    unfolding split more
    stepped = rw (opened, ← z, drop-cons rs (suc i) Absent (omega arith))

    pub from_unseparated : end ≡ length d → None ≡ answered at (split (drop i rs) d)
    from_unseparated e = sym (stepped ∙ rw (le-ltb end (length d) (omega arith)))

    module _ (f : Bool) (g : f ≡ fits rule (take end d)) (below : end ≤ length d) (apart : end ≡ length d → ⊥) where
      inner : end < length d
      inner = omega arith

      pub from_unfit : not f ≡ true → None ≡ answered at (split (drop i rs) d)
      from_unfit h = sym (stepped ∙ rw (lt-ltb end (length d) inner, sym g ∙ not-true f h))

      pub from_more : (rest : Option Ends) → not f ≡ false → rest ≡ answered (at + end + 1) (split (drop (i + 1) rs) (take (length d - (end + 1)) (drop (end + 1) d)))
          → with_end (at + end) rest ≡ answered at (split (drop i rs) d)
      from_more rest h p =
          let l : length (take end d) ≡ end = length-take-le end d (omega arith) in
          let p' : rest ≡ answered (at + length (take end d) + 1) (split (drop (suc i) rs) (drop (end + 1) d)) = p ∙ rw (rest_part, add-one i, l) in
          ap (λ (n : ℕ). with_end (at + n) rest) (sym l)
          ∙ ap (with_end (at + length (take end d))) p' ∙ answered_front at (take end d) (split (drop (suc i) rs) (drop (end + 1) d)) ∙ sym (stepped ∙ rw (lt-ltb end (length d) inner, sym g ∙ not-false f h))

-- ---- no argument

-- a shape with no rule has the answer for none
pub none_asked : (rs : List Rule) (at count : ℕ) (d : Bytes) (r : Option Ends) → count ≡ length rs → count ≡ 0 → r ≡ answered at (split [] d) → r ≡ answered at (split rs d)
none_asked [] at count d r q z e = e
none_asked (x ∷ rs) at count d r q z e = absurd (omega arith)
