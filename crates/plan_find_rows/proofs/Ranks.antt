-- What a row is ranked by: nothing if it is not queued or its function is not one of the connection's, else priority and serial.
-- Assumes nothing.
use Prim.Native.Nat.{ℕ, ◌+◌, ◌-◌, ◌*◌, ◌≤◌}
use mathlib.Core.Path.{◌≡◌, refl}
use mathlib.Core.Bool.{Bool, true, false, cond, ◌&&◌, ◌||◌}
use mathlib.Core.List.{List}
use native.Mathlib.Omega.{arith}
use borrow.Author.Tests.{ltb-true, eqb-true, leb-true}
use lib.ListN.{get_or}
use lib.Dec.{eqb, leb, ltb}
use Rattle.octets.proofs.Strings.{and_false, and_left, and_right}
use Rattle.sets.specs.Sets.{has}
use Rattle.server.specs.declared.JobRow.{JobRow}
use Rattle.server.specs.Table.{queued, grabbable, rank}
use Rattle.plan_find_rows.specs.Queue.{rank_of, stays_behind}

module _ (ables : List ℕ) (c : ℕ) (r : JobRow) where
  pub rank_idle : queued r ≡ false → rank ables c r ≡ 0
  unfolding rank
  rank_idle e = rw e

  pub rank_unable : has (get_or ables r.function 0) c ≡ false → rank ables c r ≡ 0
  unfolding rank
  rank_unable e = rw (e, and_false (queued r))

  pub rank_able : queued r ≡ true → has (get_or ables r.function 0) c ≡ true → rank ables c r ≡ rank_of r
  unfolding rank
  rank_able e g = rw (e, g)

  -- at most what its priority and serial give
  pub rank_most : rank ables c r ≤ rank_of r
  unfolding rank
  rank_most = go (grabbable ables c r)
    where
      go : (t : Bool) → cond t (rank_of r) 0 ≤ rank_of r
      go true = omega arith
      go false = omega arith

  -- and no less, if it is ranked at all
  pub rank_some : (rank ables c r ≡ 0 → ⊥) → rank ables c r ≡ rank_of r
  unfolding rank
  rank_some = go (grabbable ables c r)
    where
      go : (t : Bool) → (cond t (rank_of r) 0 ≡ 0 → ⊥) → cond t (rank_of r) 0 ≡ rank_of r
      go true n = refl
      go false n = absurd (n refl)

-- a row that stays behind has no greater rank: the next priority begins above every serial
pub behind : (p s : ℕ) (r : JobRow) → stays_behind p s r ≡ true → rank_of r ≤ p * 4294967296 + (4294967296 - s)
behind p s r = go (ltb r.priority p) refl
  where
    go : (t : Bool) → ltb r.priority p ≡ t → t || (eqb r.priority p && leb s r.serial) ≡ true → rank_of r ≤ p * 4294967296 + (4294967296 - s)
    go true e g = omega (arith, ltb-true r.priority p e)
    go false e g = omega (arith, eqb-true r.priority p (and_left (eqb r.priority p) _ g), leb-true s r.serial (and_right (eqb r.priority p) _ g))
