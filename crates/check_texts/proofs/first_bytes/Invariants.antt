-- `check_texts::first_bytes` meets its contract. The invariant: the entries written are the first bytes of their places. Assumes nothing.
use Prim.Native.Nat.{ℕ, ◌+◌, ◌*◌, ◌<◌}
use mathlib.Core.Path.{◌≡◌}
use lib.ListN.{length, get_or}
use Rattle.check_texts.proofs.first_bytes.Given as goal

abbrev pub invariant-loop-i : goal.invariant-loop-i
invariant-loop-i l = (length l.m ≡ 32) × ((k : ℕ) → k < l.i → get_or l.m k 0 ≡ get_or l.table (l.at + 10 * k) 0)
