-- Counts of a status line: the unfinished jobs are the queued and the held ones together, and the connections able to do a function are
-- the ones of its set. 02, ask 1: "unfinished jobs (queued and held together), held jobs, and the number of connections able to do it".
-- Assumes nothing.
use Prim.Native.Nat.{ℕ, ◌+◌}
use mathlib.Core.Path.{◌≡◌, refl}
use mathlib.Core.Bool.{Bool, true, false, not, cond, ◌&&◌}
use mathlib.Core.List.{List, [], ◌∷◌}
use native.Mathlib.Omega.{arith}
use lib.Count.{ones}
use lib.Dec.{eqb}
use lib.ListN.{length}
use Rattle.sets.proofs.Laws.{ones_members}
use Rattle.lists.specs.Lists.{filter}
use Rattle.server.specs.declared.JobRow.{JobRow}
use Rattle.server.specs.Table.{Table, function_at, rows_of, live, queued, names}
use Rattle.command.specs.Texts.{is_held, jobs_of, held_of, able_of}
use Rattle.command_laws.proofs.Rules.{Printable, able_small}

-- a job of the function at place q that waits in the queue
abbrev pub waits : ℕ → JobRow → Bool
waits q r = queued r && eqb r.function q

parted : (q : ℕ) (rs : List JobRow) → length (filter (names q) rs) ≡ length (filter (waits q) rs) + length (filter (is_held q) rs)
parted q [] = refl
parted q (r ∷ rs) = go (live r) (eqb r.function q) (eqb r.holder 0) (parted q rs)
  where
    go : (l f h : Bool) → length (filter (names q) rs) ≡ length (filter (waits q) rs) + length (filter (is_held q) rs)
        → length (cond (l && f) (r ∷ filter (names q) rs) (filter (names q) rs))
        ≡ length (cond ((l && h) && f) (r ∷ filter (waits q) rs) (filter (waits q) rs)) + length (cond ((l && f) && not h) (r ∷ filter (is_held q) rs) (filter (is_held q) rs))
    go true true true e = omega arith
    go true true false e = omega arith
    go true false true e = e
    go true false false e = e
    go false f h e = e

pub jobs_counted : (t : Table) (q : ℕ) → jobs_of t q ≡ length (filter (waits q) (rows_of t)) + held_of t q
unfolding jobs_of held_of
jobs_counted t q = parted q (rows_of t)

-- 01: "able connections are a set in one unsigned number; its ones are counted for the status line"
pub able_counted : (t : Table) → Printable t → (q : ℕ) → ones (function_at t q).able ≡ able_of t q
unfolding able_of
able_counted t h q = ones_members (length t.connections) (function_at t q).able (able_small t h q)
