-- `check_rings::apart_by` meets its contract. The invariant: the flag says what the places passed say, whatever test the calls make.
-- Assumes nothing.
use Rattle.std.proofs.Common.{◌≡◌, ℕ, Bool}
use Rattle.lists.specs.Lists.{all, numbers}
use Rattle.check_rings.specs.Rings.{apart_at}
use Rattle.check_rings.proofs.apart_by.Given as goal

abbrev pub invariant-loop-i : goal.invariant-loop-i
invariant-loop-i g l =
    (p : ℕ → Bool) → ((x : ℕ) (r : Bool) → goal.F-post g l.out x r → r ≡ p x) → l.ok ≡ all (apart_at p l.w l.d) (numbers 0 l.i)
