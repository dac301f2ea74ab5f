-- When values that stand twice in a row differ at a distance. Assumes nothing.
use Rattle.std.specs.Prelude.{ℕ, ◌+◌, Bool, not, ◌||◌, List, get_or, eqb}

-- what stands at place k is left out, or does not stand d places further on
abbrev pub apart_at : (ℕ → Bool) → List ℕ → ℕ → ℕ → Bool
apart_at out w d k = out (get_or w k 0) || not (eqb (get_or w k 0) (get_or w (k + d) 0))
