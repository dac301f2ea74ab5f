-- What the text entry may answer, and what its lists are. 02, ask 1. Assumes nothing.
use Rattle.std.specs.Prelude.{ℕ, ◌+◌, ◌≤◌, ◌≡◌, true, not, ◌&&◌, List, ◌∷◌, ◌++◌, length, drop, eqb}
use Rattle.std.specs.Int.Count.{ones}
use Rattle.octets.specs.Bytes.{Bytes}
use Rattle.lists.specs.Lists.{any, filter, pairwise}
use Rattle.server.specs.Table.{Function, Table, function_at, rows_of, queued}
use Rattle.server.specs.Call.{Result, left}
use Rattle.command.specs.Order.{before, name_at, is_named}
use Rattle.command.specs.Texts.{jobs_of, held_of, able_of}

-- told: the output begins with the connection's byte and the whole text, and is as it was beyond them; table and workloads stay. Or refused
-- by 1, 2 or 3, and not a byte is changed
pub data Said (c : ℕ) (text t w o : Bytes) (r : Result) : Type 0 where
  tells : length (c ∷ text) ≤ length o → r ≡ left 0 (length (c ∷ text)) ((c ∷ text) ++ drop (length (c ∷ text)) o) t w → Said c text t w o r
  silent : 1 ≤ r.number → r.number ≤ 3 → r ≡ left r.number 0 o t w → Said c text t w o r

-- 02: "a line a known function in rising byte order of name": a place is listed exactly if its function is known, none twice, and of each
-- two the first has the lesser name
pub record Listed (fs : List Function) (places : List ℕ) : Type 0 where
  pub known : (q : ℕ) → any (eqb q) places ≡ is_named fs q
  pub once : pairwise (λ p q. not (eqb p q)) places ≡ true
  pub rising : pairwise (λ p q. before (name_at fs p) (name_at fs q)) places ≡ true

-- 02: "unfinished jobs (queued and held together), held jobs, and the number of connections able to do it": the ones of their set
pub record Counted (t : Table) (q : ℕ) : Type 0 where
  pub together : jobs_of t q ≡ length (filter (λ r. queued r && eqb r.function q) (rows_of t)) + held_of t q
  pub able : ones (function_at t q).able ≡ able_of t q

-- the same number, length and output
pub record SameText (r q : Result) : Type 0 where
  pub number : r.number ≡ q.number
  pub length' : r.length' ≡ q.length'
  pub output : r.output ≡ q.output
