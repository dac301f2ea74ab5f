-- `check_exact::each_two` meets its contract. The invariants: whatever test the calls make, the flag says what the places passed and those
-- after each say, and within one place what the later ones passed say too. Assumes nothing.
use Rattle.std.proofs.Common.{◌≡◌, ℕ, Bool, ◌&&◌, ◌+◌, ◌-◌, ◌<◌}
use Rattle.lists.specs.Lists.{all, numbers}
use Rattle.check_exact.proofs.each_two.Given as goal

abbrev pub invariant-loop-i : goal.invariant-loop-i
invariant-loop-i g l =
    (t : ℕ → ℕ → Bool) → ((i k : ℕ) (r : Bool) → i < l.n → k < l.n → goal.F-post g l.holds i k r → r ≡ t i k) → l.ok ≡ all (λ i. all (t i) (numbers (i + 1) (l.n - (i + 1)))) (numbers 0 l.i)

abbrev pub invariant-loop-k : goal.invariant-loop-k
invariant-loop-k g l =
    (t : ℕ → ℕ → Bool) → ((i k : ℕ) (r : Bool) → i < l.n → k < l.n → goal.F-post g l.holds i k r → r ≡ t i k)
    → l.ok ≡ all (λ i. all (t i) (numbers (i + 1) (l.n - (i + 1)))) (numbers 0 l.i) && all (t l.i) (numbers (l.i + 1) (l.k - (l.i + 1)))
