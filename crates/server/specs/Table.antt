-- The table: connections, known functions and unfinished jobs, and what can be read off it. 01, "Jobs and the queue".
-- The number of connections is the length of their list: the product's number stands in `Sizes`. Assumes nothing.
use Rattle.std.specs.Prelude.{ℕ, suc, ◌+◌, ◌-◌, ◌*◌, max, Bool, true, false, not, cond, ◌&&◌, ◌||◌, List, [], ◌∷◌, map, get_or, set, replicate, eqb, Option, Some, None}
use Rattle.octets.specs.Bytes.{Bytes, same}
use Rattle.handle.specs.Handle.{handle}
use Rattle.sets.specs.Sets.{has, is_empty}
use Rattle.server.specs.declared.Connection.{Connection}
use Rattle.server.specs.declared.JobRow.{JobRow}
use Rattle.lists.specs.Lists.{any, find}
use Rattle.server.specs.Sizes.{function_count, job_count}

-- a place for a known function: its name, and the connections able to do it. A free place has the empty name.
pub record Function : Type 0 where
  pub name : Bytes
  pub able : ℕ

-- a place for an unfinished job: the numbers of its row, its unique, and the two stored texts. A free place has serial 0.
pub record Job : Type 0 where
  pub row : JobRow
  pub unique : Bytes
  pub numerator : Bytes
  pub denominator : Bytes

-- the last serial given out (0: none yet), and the places; the client id of each connection, empty where it has none; the name of the hub.
-- 02, ask 5: the name "stands in the table"
pub record Table : Type 0 where
  pub last : ℕ
  pub connections : List Connection
  pub ids : List Bytes
  pub functions : List Function
  pub jobs : List Job
  pub hub : Bytes

-- ---- empty places, and the fresh table

abbrev pub closed : Connection
closed = record { opened = false; asleep = false; exceptions = false }

abbrev pub no_function : Function
no_function = record { name = []; able = 0 }

abbrev pub no_row : JobRow
no_row = record { serial = 0; function = 0; priority = 0; background = false; listeners = 0; holder = 0; size = 0 }

abbrev pub no_job : Job
no_job = record { row = no_row; unique = []; numerator = []; denominator = [] }

-- 01: "known functions 16; unfinished jobs 32"; n connections, all closed. 02: "A fresh table is made with a name"
unfoldable pub fresh : ℕ → Bytes → Table
fresh n hub = record { last = 0; connections = replicate n closed; ids = replicate n []; functions = replicate function_count no_function; jobs = replicate job_count no_job; hub = hub }

-- ---- what stands at a place

abbrev pub connection_at : Table → ℕ → Connection
connection_at t c = get_or t.connections c closed

abbrev pub id_at : Table → ℕ → Bytes
id_at t c = get_or t.ids c []

abbrev pub function_at : Table → ℕ → Function
function_at t q = get_or t.functions q no_function

abbrev pub job_at : Table → ℕ → Job
job_at t p = get_or t.jobs p no_job

-- ---- parts put anew, the new part first: a new field is one line in each of these, and nowhere else is a row built from its fields

abbrev pub with_last_serial : ℕ → Table → Table
with_last_serial s t = record { last = s; connections = t.connections; ids = t.ids; functions = t.functions; jobs = t.jobs; hub = t.hub }

abbrev pub with_connections : List Connection → Table → Table
with_connections cs t = record { last = t.last; connections = cs; ids = t.ids; functions = t.functions; jobs = t.jobs; hub = t.hub }

abbrev pub with_ids : List Bytes → Table → Table
with_ids is t = record { last = t.last; connections = t.connections; ids = is; functions = t.functions; jobs = t.jobs; hub = t.hub }

abbrev pub with_functions : List Function → Table → Table
with_functions fs t = record { last = t.last; connections = t.connections; ids = t.ids; functions = fs; jobs = t.jobs; hub = t.hub }

abbrev pub with_jobs : List Job → Table → Table
with_jobs js t = record { last = t.last; connections = t.connections; ids = t.ids; functions = t.functions; jobs = js; hub = t.hub }

-- no event puts the name anew: laws alone do
abbrev pub with_hub : Bytes → Table → Table
with_hub name t = record { last = t.last; connections = t.connections; ids = t.ids; functions = t.functions; jobs = t.jobs; hub = name }

abbrev pub set_connection : Table → ℕ → Connection → Table
set_connection t c x = with_connections (set t.connections c x) t

abbrev pub set_id : Table → ℕ → Bytes → Table
set_id t c i = with_ids (set t.ids c i) t

abbrev pub set_function : Table → ℕ → Function → Table
set_function t q x = with_functions (set t.functions q x) t

abbrev pub set_job : Table → ℕ → Job → Table
set_job t p x = with_jobs (set t.jobs p x) t

-- a connection that has just been opened
abbrev pub just_opened : Connection
just_opened = record { opened = true; asleep = false; exceptions = false }

abbrev pub with_asleep : Bool → Connection → Connection
with_asleep b x = record { opened = x.opened; asleep = b; exceptions = x.exceptions }

abbrev pub with_exceptions : Bool → Connection → Connection
with_exceptions b x = record { opened = x.opened; asleep = x.asleep; exceptions = b }

abbrev pub with_name : Bytes → Function → Function
with_name f x = record { name = f; able = x.able }

abbrev pub with_able : ℕ → Function → Function
with_able s x = record { name = x.name; able = s }

-- a job that has just come: queued, and nobody listens yet
abbrev pub fresh_row : ℕ → ℕ → ℕ → ℕ → JobRow
fresh_row serial q priority size = record { serial = serial; function = q; priority = priority; background = false; listeners = 0; holder = 0; size = size }

abbrev pub with_listeners : ℕ → JobRow → JobRow
with_listeners s r = record { serial = r.serial; function = r.function; priority = r.priority; background = r.background; listeners = s; holder = r.holder; size = r.size }

abbrev pub in_background : JobRow → JobRow
in_background r = record { serial = r.serial; function = r.function; priority = r.priority; background = true; listeners = r.listeners; holder = r.holder; size = r.size }

abbrev pub with_holder : ℕ → JobRow → JobRow
with_holder h r = record { serial = r.serial; function = r.function; priority = r.priority; background = r.background; listeners = r.listeners; holder = h; size = r.size }

abbrev pub with_row : JobRow → Job → Job
with_row r j = record { row = r; unique = j.unique; numerator = j.numerator; denominator = j.denominator }

abbrev pub with_texts : Bytes → Bytes → Job → Job
with_texts n d j = record { row = j.row; unique = j.unique; numerator = n; denominator = d }

-- 01: "`0` and `0` at first"
abbrev pub unstarted : JobRow → Bytes → Job
unstarted r u = record { row = r; unique = u; numerator = 48 ∷ []; denominator = 48 ∷ [] }

-- ---- jobs

-- an unfinished job stands here
abbrev pub live : JobRow → Bool
live r = not (eqb r.serial 0)

-- it waits in the queue
abbrev pub queued : JobRow → Bool
queued r = live r && eqb r.holder 0

-- connection c holds it
abbrev pub held_by : ℕ → JobRow → Bool
held_by c r = live r && eqb r.holder (suc c)

-- 01: "Its handle is `H:lap:` and the serial in decimal"; 02: with the hub's name "instead of `lap`". A job is found by the text of its handle,
-- never by its place; a text with another hub's name is no job's handle.
unfoldable pub has_handle : Bytes → Bytes → JobRow → Bool
has_handle hub h r = live r && same (handle hub r.serial) h

-- the place of the unfinished job with this handle
abbrev pub job_of : Table → Bytes → Option ℕ
job_of t h = find (λ j. has_handle t.hub h j.row) t.jobs

-- ---- the numbers that rules and searches look at

-- the rows of the jobs
abbrev pub rows_of : Table → List JobRow
rows_of t = map (λ j. j.row) t.jobs

-- the connections able to do each function
abbrev pub ables_of : Table → List ℕ
ables_of t = map (λ x. x.able) t.functions

-- ---- functions and abilities

-- connection c can do the function at place q
abbrev pub able : List ℕ → ℕ → ℕ → Bool
able ables q c = has (get_or ables q 0) c

-- 01: "Known function": the place where a name stands
abbrev pub known : List Function → Bytes → Option ℕ
known fs f = find (λ x. same x.name f) fs

abbrev pub or_else : Option ℕ → Option ℕ → Option ℕ
or_else (Some q) o = Some q
or_else None o = o

-- the lowest place without a name
abbrev pub free_function : List Function → Option ℕ
free_function fs = known fs []

-- 01: "A new one takes the lowest free of 16 places"; none, if it is new and there is none
abbrev pub room_for : List Function → Bytes → Option ℕ
room_for fs f = or_else (known fs f) (free_function fs)

-- an unfinished job names the function at place q
abbrev pub names : ℕ → JobRow → Bool
names q r = live r && eqb r.function q

-- 01: "some connection can do it or an unfinished job names it": the function at place q, which the connections of a set can do
abbrev pub wanted : List JobRow → ℕ → ℕ → Bool
wanted rs q able = not (is_empty able) || any (names q) rs

-- ---- grabbing

-- the queued job is one that connection c can do
abbrev pub grabbable : List ℕ → ℕ → JobRow → Bool
grabbable ables c r = queued r && able ables r.function c

-- 01: "the highest priority, then the lowest serial": the greater rank is grabbed first; 0 cannot be grabbed
unfoldable pub rank : List ℕ → ℕ → JobRow → ℕ
rank ables c r = cond (grabbable ables c r) (r.priority * 4294967296 + (4294967296 - r.serial)) 0

abbrev pub greatest : List ℕ → ℕ
greatest [] = 0
greatest (x ∷ xs) = max x (greatest xs)

-- the place of the job that connection c is given; none "exactly if there is none"
unfoldable pub best_row : List ℕ → List JobRow → ℕ → Option ℕ
best_row ables rs c =
    let m = greatest (map (rank ables c) rs) in
    find (λ r. not (eqb m 0) && eqb (rank ables c r) m) rs

abbrev pub best : Table → ℕ → Option ℕ
best t c = best_row (ables_of t) (rows_of t) c

-- 01: "a new job takes the lowest free place"
unfoldable pub free_row : List JobRow → Option ℕ
free_row rs = find (λ r. not (live r)) rs

abbrev pub free_place : Table → Option ℕ
free_place t = free_row (rows_of t)

-- ---- joining

-- 01: "A submission with a non-empty unique whose function and unique equal an unfinished job's joins it"
abbrev pub joins : List Function → Bytes → Bytes → Job → Bool
joins fs f u j = live j.row && (not (same u []) && (same j.unique u && same (get_or fs j.row.function no_function).name f))

unfoldable pub joined : Table → Bytes → Bytes → Option ℕ
joined t f u = find (joins t.functions f u) t.jobs
