-- What an array that a loop fills holds. Assumes nothing.
use Rattle.std.specs.Prelude.{ℕ, ◌+◌, ◌<◌, ◌≡◌, List, get_or}

-- w has the first n values of f twice, one after the other
abbrev pub Twice : ℕ → (ℕ → ℕ) → List ℕ → Type 0
Twice n f w = ((k : ℕ) → k < n → get_or w k 0 ≡ f k) × ((k : ℕ) → k < n → get_or w (n + k) 0 ≡ f k)
