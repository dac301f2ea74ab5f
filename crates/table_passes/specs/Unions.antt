-- What a set that a loop gathers holds. Assumes nothing.
use Rattle.std.specs.Prelude.{ℕ, ◌≡◌}
use Rattle.sets.specs.Sets.{has}
use Rattle.lists.specs.Lists.{any, numbers}

-- s is the union of f 0 .. f (n - 1)
abbrev pub Joined : (ℕ → ℕ) → ℕ → ℕ → Type 0
Joined f n s = (c : ℕ) → has s c ≡ any (λ k. has (f k) c) (numbers 0 n)
