-- `check_rings::apart` meets its contract. The invariant: the flag says what the distances passed say, whatever test the calls make.
-- Assumes nothing.
use Rattle.std.proofs.Common.{◌≡◌, ℕ, Bool, ◌+◌, ◌/◌}
use Rattle.lists.specs.Lists.{all, numbers}
use Rattle.check_rings.specs.Rings.{apart_at}
use Rattle.check_rings.proofs.apart.Given as goal

abbrev pub invariant-loop-d : goal.invariant-loop-d
invariant-loop-d g l =
    (p : ℕ → Bool) → ((x : ℕ) (r : Bool) → goal.F-post g l.out x r → r ≡ p x) → l.ok ≡ all (λ d. all (apart_at p l.w (d + 1)) (numbers 0 (g.row.N / 2))) (numbers 0 l.d)
