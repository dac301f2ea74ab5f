-- What each row says by itself, and the tests that show it. Assumes nothing.
use Rattle.std.specs.Prelude.{ℕ, ◌+◌, ◌-◌, ◌*◌, ◌<◌, ◌≡◌, Bool, not, cond, ◌&&◌, ◌||◌, List, get_or, eqb, leb}
use Rattle.octets.specs.Bytes.{Bytes}
use Rattle.sets.specs.Sets.{is_empty}
use Rattle.server.specs.declared.JobRow.{JobRow}
use Rattle.lists.specs.Lists.{all, numbers, implies}
use Rattle.server.specs.Sizes.{connection_count, function_count, job_count}
use Rattle.server.specs.Table.{live, queued}
use Rattle.server.specs.Layout.{little_at, row_in, priorities_at, backgrounds_at, functions_at}
use Rattle.server.specs.Rules.{numbers_free, numbers_in_range}

-- ---- the rules

-- the numbers have a meaning in the layout
abbrev pub numbers_mean : JobRow → Bool
numbers_mean r = cond (live r) (numbers_in_range function_count connection_count r) (numbers_free r)

abbrev pub is_awaited : JobRow → Bool
is_awaited r = implies (queued r) (r.background || not (is_empty r.listeners))

unfoldable pub rows_mean : Bytes → Bool
rows_mean b = all (λ k. numbers_mean (row_in connection_count b k) && is_awaited (row_in connection_count b k)) (numbers 0 job_count)

-- ---- the tests

abbrev pub mark_of : ℕ → ℕ
mark_of x = cond (eqb x 0) 0 1

-- m has the marks of the 32 numbers of w bytes from a place on
abbrev pub Marked : ℕ → Bytes → ℕ → List ℕ → Type 0
Marked w b at m = (k : ℕ) → k < job_count → get_or m k 0 ≡ mark_of (little_at w b (at + w * k))

abbrev pub bytes_in_range : Bytes → ℕ → Bool
bytes_in_range b k = leb (get_or b (priorities_at + k) 0) 2 && leb (get_or b (functions_at + k) 0) (function_count - 1)

abbrev pub holder_in_range : Bytes → ℕ → Bool
holder_in_range b k = leb (row_in connection_count b k).holder connection_count

-- nobody holds the job, listens to it, or need not
abbrev pub is_alone : List ℕ → List ℕ → Bytes → ℕ → Bool
is_alone heard held b k = eqb (get_or held k 0) 0 && (eqb (get_or heard k 0) 0 && eqb (get_or b (backgrounds_at + k) 0) 0)

abbrev pub free_or_awaited : List ℕ → List ℕ → List ℕ → List ℕ → Bytes → ℕ → Bool
free_or_awaited live heard held sized b k =
    (eqb (get_or live k 0) 0 || not (is_alone heard held b k))
    && (not (eqb (get_or live k 0) 0)
    || (is_alone heard held b k && (eqb (get_or sized k 0) 0 && (eqb (get_or b (priorities_at + k) 0) 0 && eqb (get_or b (functions_at + k) 0) 0))))
