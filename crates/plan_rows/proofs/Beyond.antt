-- Places beyond the last: an empty one is read there, and nothing is put there. Assumes nothing.
use Prim.Native.Nat.{ℕ, ◌≤◌}
use mathlib.Core.Path.{◌≡◌, sym}
use mathlib.Core.List.{List}
use native.Mathlib.Omega.{arith}
use lib.ListN.{length, get_or, set, get_or-eq_default}
use lib.Seq.{set_out}

module _ {A : Type 0} (l : List A) (n i : ℕ) (long : length l ≡ n) (beyond : n ≤ i) where
  pub at_beyond : (d : A) → d ≡ get_or l i d
  at_beyond d = sym (get_or-eq_default l d {n = i} (omega arith))

  pub set_beyond : (a : A) → l ≡ set l i a
  set_beyond a = sym (set_out l i a (omega arith))
