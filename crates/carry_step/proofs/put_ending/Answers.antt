-- `carry_step::put_ending` meets its contract: the flags of those that wake, and the place of the forgotten function. Assumes nothing.
use Prim.Native.Nat.{ℕ}
use mathlib.Core.Path.{◌≡◌, refl, ◌∙◌}
use Rattle.std.specs.Prelude.{Option, Some, None}
use borrow.Author.Rules.{rules}
use Rattle.octets.specs.Bytes.{Bytes}
use Rattle.carry_step.specs.Laying.{laid_ending, laid_without}
use Rattle.carry_step.proofs.put_ending.Goals as goal

pub put_forgotten-requires : goal.put_forgotten-requires
put_forgotten-requires c =
    let f = rw c.in-Some.is at c.requires.1 in
    search (rules, c.requires.0, f)

-- where nothing is forgotten, nothing more is laid
unforgotten : (o : Option ℕ) (b : Bytes) → ((q : ℕ) → o ≡ Some q → ⊥) → b ≡ laid_without o b
unforgotten None b n = refl
unforgotten (Some q) b n = absurd (n q refl)

pub returns-in_default : goal.returns-in_default
unfolding laid_ending
returns-in_default c = c.put_awake.ensures ∙ unforgotten _ _ c.in_default.not-Some

pub returns-in-Some : goal.returns-in-Some
unfolding laid_ending
returns-in-Some c = rw c.in-Some.is (c.put_forgotten.ensures ∙ rw c.put_awake.ensures)
