-- The sets that the end of an event is computed by: who can do some queued job, who wakes, which functions jobs name. Each is one
-- union over the rows; proofs/Sleepers.antt says what they are in the server's words. Assumes nothing.
use Rattle.std.specs.Prelude.{ℕ, suc, Bool, cond, not, ◌&&◌, ◌||◌, List, [], ◌∷◌, map, get_or, ltb}
use Rattle.sets.specs.Sets.{has, insert, union, is_empty}
use Rattle.server.specs.declared.Connection.{Connection}
use Rattle.server.specs.declared.JobRow.{JobRow}
use Rattle.lists.specs.Lists.{map_from, numbers}
use Rattle.server.specs.Sizes.{function_count}
use Rattle.server.specs.Table.{live, queued}
use Rattle.server.specs.Events.{awake}

-- the union of s and the sets of the entries, each from its place and itself; the first has place i
unfoldable pub unions : {A : Type 0} → (ℕ → A → ℕ) → ℕ → ℕ → List A → ℕ
unions f s i [] = s
unions f s i (x ∷ xs) = unions f (union s (f i x)) (suc i) xs

-- the connections that can do the job, if it is queued
unfoldable pub able_for : List ℕ → JobRow → ℕ
able_for ables r = cond (queued r) (get_or ables r.function 0) 0

-- the connections that can do some queued job
unfoldable pub busy_set : List ℕ → List JobRow → ℕ
busy_set ables rs = unions (λ i r. able_for ables r) 0 0 rs

-- the connections' rows, with the sleepers among the busy awake
unfoldable pub woken_by : ℕ → List Connection → List Connection
woken_by busy cs = map_from (λ c x. cond (x.asleep && has busy c) (awake x) x) 0 cs

-- connection c as a set, if it sleeps and is busy
unfoldable pub wakes_now : ℕ → ℕ → Connection → ℕ
wakes_now busy c x = cond (x.asleep && has busy c) (insert 0 c) 0

unfoldable pub to_wake_set : ℕ → List Connection → ℕ
to_wake_set busy cs = unions (wakes_now busy) 0 0 cs

-- the place of the job's function as a set, if a job stands here and the place is one of 16
unfoldable pub name_of : JobRow → ℕ
name_of r = cond (live r && ltb r.function function_count) (insert 0 r.function) 0

unfoldable pub named_set : List JobRow → ℕ
named_set rs = unions (λ i r. name_of r) 0 0 rs

-- which of the functions are wanted, by the set of those that jobs name
unfoldable pub marked_by : List ℕ → ℕ → List Bool
marked_by ables s = map (λ q. not (is_empty (get_or ables q 0)) || has s q) (numbers 0 function_count)
