-- `check_rings::twice` meets its contract. The invariant: whatever numbers the calls give, those of the first k are written in both runs.
-- Assumes nothing.
use Rattle.std.proofs.Common.{◌≡◌, ℕ, ◌/◌, ◌<◌}
use Rattle.table_passes.proofs.Arrays.{Written}
use Rattle.check_rings.proofs.twice.Given as goal

abbrev pub invariant-loop-k : goal.invariant-loop-k
invariant-loop-k g l =
    (f : ℕ → ℕ) → ((k x : ℕ) → k < g.row.N / 2 → goal.F-post g l.value k x → x ≡ f k) → Written (g.row.N / 2) f l.k l.w
