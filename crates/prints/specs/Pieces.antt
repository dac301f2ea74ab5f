-- A run of bytes made piece by piece, each given by its place: what a loop lays that goes over arguments, connections or jobs.
-- Assumes nothing.
use Rattle.std.specs.Prelude.{ℕ, zero, suc, [], ◌++◌}
use Rattle.octets.specs.Bytes.{Bytes}

-- the first n pieces one after the other
unfoldable pub pieces : (ℕ → Bytes) → ℕ → Bytes
pieces g zero = []
pieces g (suc n) = pieces g n ++ g n
