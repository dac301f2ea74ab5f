-- What is done: the number, the packets to send and the next table. 01, "Refusal numbers" and "Jobs and the queue"; 02, asks 1, 3 and 5.
-- Nothing here sees an opaque byte. Assumes nothing.
use Rattle.std.specs.Prelude.{ℕ, suc, ◌+◌, ◌/◌, ◌%◌, Bool, true, false, not, cond, ◌&&◌, List, [], ◌∷◌, ◌++◌, map, length, get_or, ltb, eqb, Option, Some, None}
use Rattle.octets.specs.Bytes.{Bytes, same, text}
use Rattle.handle.specs.Handle.{handle}
use Rattle.sets.specs.Sets.{insert, remove, is_empty, members}
use Rattle.server.specs.declared.Connection.{Connection}
use Rattle.server.specs.declared.JobRow.{JobRow}
use Rattle.lists.specs.Lists.{any, find, filter, map_from, numbers}
use Rattle.server.specs.Table.{Function, Job, Table, closed, no_function, no_job, connection_at, function_at, job_at, with_last_serial, with_connections, with_functions, with_jobs, set_connection, set_id, set_function, set_job, just_opened, with_asleep, with_exceptions, with_name, with_able, fresh_row, with_listeners, in_background, with_holder, with_row, with_texts, unstarted, queued, held_by, has_handle, rows_of, ables_of, known, room_for, wanted, grabbable, best, free_place, joined, job_of}
use Rattle.server.specs.Refusals.{error_text, is_told}
use Rattle.server.specs.Requests.{Work, tells, reports, ends, throws, Request, reset, pre_sleep, echo, bad, can_do, cant_do, identify, grab, submit, work, get_status, option}

-- ---- packets to send

-- plain: these arguments; copy: this packet's data as it came; assign: the job at a place, whose workload follows
pub data Send : Type 0 where
  plain : (to kind : ℕ) (arguments : List Bytes) → Send
  copy : (to kind : ℕ) → Send
  assign : (uniq : Bool) (to place : ℕ) → Send

pub record Decision : Type 0 where
  pub number : ℕ
  pub packets : List Send
  pub table : Table

-- ---- refusals

-- 01: "one ERROR packet to the sender: the number as two decimal digits, a zero byte, the text"
abbrev pub error : ℕ → ℕ → Send
error c n = plain c 19 (((n / 10 + 48) ∷ (n % 10 + 48) ∷ []) ∷ error_text n ∷ [])

-- 01: "All refusals keep table and workloads. 1 to 8 write nothing"
unfoldable pub silence : ℕ → Table → Decision
silence n t = record { number = n; packets = []; table = t }

-- a packet of connection c is refused. 01: "9 to 15 write one ERROR packet to the sender"
unfoldable pub refuse : ℕ → ℕ → Table → Decision
refuse c n t = record { number = n; packets = cond (is_told n) (error c n ∷ []) []; table = t }

-- ---- the end of every event that is done

-- 01: "queued jobs with no listener and not background are dropped"; "An ended or dropped job's place is set to zero"
abbrev pub lost : JobRow → Bool
lost r = queued r && (not r.background && is_empty r.listeners)

abbrev pub unless_lost : Job → Job
unless_lost j = cond (lost j.row) no_job j

unfoldable pub dropped : Table → Table
dropped t = with_jobs (map unless_lost t.jobs) t

-- 01: "NOOP to sleepers with a grabbable job", "NOOP always ends sleep"
abbrev pub wakes : List ℕ → List JobRow → ℕ → Connection → Bool
wakes ables rs c x = x.asleep && any (grabbable ables c) rs

abbrev pub awake : Connection → Connection
awake x = with_asleep false x

unfoldable pub woken_in : List ℕ → List JobRow → List Connection → List Connection
woken_in ables rs cs = map_from (λ c x. cond (wakes ables rs c x) (awake x) x) 0 cs

abbrev pub woken : Table → Table
woken t = with_connections (woken_in (ables_of t) (rows_of t) t.connections) t

-- 01: "Packets to several connections go in rising connection order."
unfoldable pub to_wake_in : List ℕ → List JobRow → List Connection → List ℕ
to_wake_in ables rs cs = filter (λ c. wakes ables rs c (get_or cs c closed)) (numbers 0 (length cs))

abbrev pub to_wake : Table → List ℕ
to_wake t = to_wake_in (ables_of t) (rows_of t) t.connections

-- 01: "At the end of an event it is forgotten, and its place set to zero and free, when neither holds."
unfoldable pub forgot : Table → Table
forgot t = with_functions (map_from (λ q x. cond (wanted (rows_of t) q x.able) x no_function) 0 t.functions) t

abbrev pub noop : ℕ → Send
noop c = plain c 6 []

-- done: lost jobs are dropped, sleepers with a grabbable job are woken, functions that nobody wants are forgotten. 01: "Requests with no
-- packet named here or in document 000 send none."
unfoldable pub settle : List Send → Table → Decision
settle ss t = record { number = 0; packets = ss ++ map noop (to_wake (dropped t)); table = forgot (woken (dropped t)) }

-- ---- open and close

unfoldable pub opening : ℕ → Table → Table
opening c t = set_connection t c just_opened

-- 01: "Close, in this order: leave all listener sets"
abbrev pub deaf_to : ℕ → JobRow → JobRow
deaf_to c r = with_listeners (remove r.listeners c) r

-- a job that connection c leaves. 01: "held jobs return to the queue"; the two texts are "`0` and `0` at first and after a return to the
-- queue". 01: "A held job with no listener otherwise stays held."
abbrev pub left_by : ℕ → Job → Job
left_by c j =
    cond (held_by c j.row)
    (with_texts (48 ∷ []) (48 ∷ []) (with_row (with_holder 0 (deaf_to c j.row)) j))
    (with_row (deaf_to c j.row) j)

abbrev pub unable : ℕ → Function → Function
unable c x = with_able (remove x.able c) x

-- 01: "abilities, option and sleep are cleared"; 02: "close clears the id"
unfoldable pub closing : ℕ → Table → Table
closing c t = with_jobs (map (left_by c) t.jobs) (with_functions (map (unable c) t.functions) (set_id (set_connection t c closed) c []))

-- ---- abilities

abbrev pub able_to : ℕ → Bytes → Function → Function
able_to c f x = with_name f (with_able (insert x.able c) x)

-- 01: "11: CAN_DO or a new job names an unknown function while 16 are known"
-- 01: "CAN_DO by a sleeper with such a job answers NOOP and wakes it": at the end of the event
unfoldable pub can_do_at : Option ℕ → ℕ → Bytes → Table → Decision
can_do_at None c f t = refuse c 11 t
can_do_at (Some q) c f t = settle [] (set_function t q (able_to c f (function_at t q)))

-- 01: "Giving up an ability leaves held jobs."
unfoldable pub cant_do_at : Option ℕ → ℕ → Table → Decision
cant_do_at None c t = settle [] t
cant_do_at (Some q) c t = settle [] (set_function t q (unable c (function_at t q)))

unfoldable pub unable_to_all : ℕ → Table → Table
unable_to_all c t = with_functions (map (unable c) t.functions) t

-- ---- sleeping and grabbing

-- 01: "PRE_SLEEP with a grabbable job answers NOOP and doesn't sleep": the end of the event wakes it at once
unfoldable pub sleeping : Bool → ℕ → Table → Table
sleeping b c t = set_connection t c (with_asleep b (connection_at t c))

-- 01: "Grabbing ends sleep." "NO_JOB exactly if there is none. A connection may hold several."
unfoldable pub grab_at : Option ℕ → Bool → ℕ → Table → Decision
grab_at None uniq c t = settle (plain c 10 [] ∷ []) t
grab_at (Some p) uniq c t = settle (assign uniq c p ∷ []) (set_job t p (with_row (with_holder (suc c) (job_at t p).row) (job_at t p)))

-- ---- submissions

-- 01: "A foreground submitter becomes a listener, once per connection; a background one marks the job background for good."
abbrev pub submitted_by : ℕ → Bool → JobRow → JobRow
submitted_by c true r = in_background r
submitted_by c false r = with_listeners (insert r.listeners c) r

-- JOB_CREATED, from the hub of this name
abbrev pub created : Bytes → ℕ → ℕ → Send
created hub c serial = plain c 8 (handle hub serial ∷ [])

-- 01: "a new job takes the lowest free place and the next serial"; "Serials are never used again."
abbrev pub new_job : ℕ → ℕ → Bool → ℕ → Bytes → ℕ → ℕ → Job
new_job c priority background q u size serial = unstarted (submitted_by c background (fresh_row serial q priority size)) u

abbrev pub accepted : ℕ → Bytes → ℕ → Job → Table → Table
accepted q f p j t = with_last_serial (suc t.last) (set_job (set_function t q (with_name f (function_at t q))) p j)

-- refusals 11 to 13 in order: a place for the function, a place for the job, a serial. 01: "JOB_CREATED goes out first. For a new job, NOOP
-- then goes to each sleeper able to do it": at the end of the event
unfoldable pub submit_new : Option ℕ → Option ℕ → ℕ → ℕ → Bool → Bytes → Bytes → ℕ → Table → Decision
submit_new None place c priority background f u size t = refuse c 11 t
submit_new (Some q) None c priority background f u size t = refuse c 12 t
submit_new (Some q) (Some p) c priority background f u size t =
    cond (ltb t.last 4294967295)
    (settle (created t.hub c (suc t.last) ∷ []) (accepted q f p (new_job c priority background q u size (suc t.last)) t))
    (refuse c 13 t)

-- 01: a join: "its own workload and priority are dropped; refusals 11 to 13 don't apply"
unfoldable pub submit_to : Option ℕ → ℕ → ℕ → Bool → Bytes → Bytes → ℕ → Table → Decision
submit_to (Some p) c priority background f u size t =
    settle (created t.hub c (job_at t p).row.serial ∷ []) (set_job t p (with_row (submitted_by c background (job_at t p).row) (job_at t p)))
submit_to None c priority background f u size t = submit_new (room_for t.functions f) (free_place t) c priority background f u size t

-- ---- worker packets

-- 01: "handle isn't a job held by this connection"
unfoldable pub holds_handle : Bytes → ℕ → Bytes → JobRow → Bool
holds_handle hub c h r = held_by c r && has_handle hub h r

-- the place of the job that connection c holds under this handle
abbrev pub held_job_of : Table → ℕ → Bytes → Option ℕ
held_job_of t c h = find (λ j. holds_handle t.hub c h j.row) t.jobs

-- who gets the copy. 01: "Worker packets go to all listeners. [..] 25 ends the job and goes only to listeners that set `exceptions`."
abbrev pub hears : Work → Table → ℕ → Bool
hears tells t l = true
hears reports t l = true
hears ends t l = true
hears throws t l = (connection_at t l).exceptions

-- 02: "WORK_FAIL with the handle alone"
abbrev pub failure : Bytes → ℕ → ℕ → Send
failure hub serial l = plain l 14 (handle hub serial ∷ [])

abbrev pub listeners_of : Table → JobRow → List ℕ
listeners_of t r = members (length t.connections) r.listeners

-- to all listeners of a job: what an exception sends where none of them has set the option
abbrev pub failures : Table → JobRow → List Send
failures t r = map (failure t.hub r.serial) (listeners_of t r)

-- the packet to one listener: the copy, or, 02 of type 25: "all others get WORK_FAIL with the handle alone": all other listeners
abbrev pub to_listener : Work → ℕ → Table → JobRow → ℕ → Send
to_listener how kind t r l = cond (hears how t l) (copy l kind) (failure t.hub r.serial l)

-- one packet to each listener of a job, 02: "in one rising order of connection"
unfoldable pub to_listeners : Work → ℕ → Table → JobRow → List Send
to_listeners how kind t r = map (to_listener how kind t r) (listeners_of t r)

-- 01: "12 also stores its two texts as they came. 13 and 14 end the job. 25 ends the job"
abbrev pub worked : Work → Bytes → Bytes → Job → Job
worked tells n d j = j
worked reports n d j = with_texts n d j
worked ends n d j = no_job
worked throws n d j = no_job

unfoldable pub work_at : Option ℕ → Work → ℕ → ℕ → Bytes → Bytes → Table → Decision
work_at None how kind c n d t = refuse c 14 t
work_at (Some p) how kind c n d t =
    settle (to_listeners how kind t (job_at t p).row) (set_job t p (worked how n d (job_at t p)))

-- ---- status, options

abbrev pub flag : Bool → Bytes
flag b = cond b 49 48 ∷ []

-- 01: "for an unfinished job known 1, running 1 if held, and the stored texts [..]; otherwise 0, 0, 0, 0 with the handle as asked"
abbrev pub status_of : Option ℕ → Bytes → Table → List Bytes
status_of None h t = h ∷ flag false ∷ flag false ∷ flag false ∷ flag false ∷ []
status_of (Some p) h t = h ∷ flag true ∷ flag (not (eqb (job_at t p).row.holder 0)) ∷ (job_at t p).numerator ∷ (job_at t p).denominator ∷ []

unfoldable pub status_at : Option ℕ → ℕ → Bytes → Table → Decision
status_at o c h t = settle (plain c 20 (status_of o h t) ∷ []) t

abbrev pub exceptions_name : Bytes
exceptions_name = text "exceptions"

abbrev pub catching : Connection → Connection
catching x = with_exceptions true x

-- 01: "15: option isn't `exceptions`"
unfoldable pub option_if : Bool → ℕ → Bytes → Table → Decision
option_if false c name t = refuse c 15 t
option_if true c name t = settle (plain c 27 (name ∷ []) ∷ []) (set_connection t c (catching (connection_at t c)))

-- ---- what a packet asks, on a connection that is open

unfoldable pub served : ℕ → Request → Table → Decision
served c (bad n) t = refuse c n t
served c (can_do f) t = can_do_at (room_for t.functions f) c f t
served c (cant_do f) t = cant_do_at (known t.functions f) c t
served c (identify i) t = settle [] (set_id t c i)  -- 02: "SET_CLIENT_ID [..] is served": it sends nothing, and the last one counts
served c reset t = settle [] (unable_to_all c t)
served c pre_sleep t = settle [] (sleeping true c t)
served c (grab uniq) t = grab_at (best t c) uniq c (sleeping false c t)
served c (submit priority background f u size) t = submit_to (joined t f u) c priority background f u size t
served c (work how kind h n d) t = work_at (held_job_of t c h) how kind c n d t
served c (get_status h) t = status_at (job_of t h) c h t
served c (option name) t = option_if (same name exceptions_name) c name t
served c echo t = settle (copy c 17 ∷ []) t

-- ---- connections

-- the number is a connection's. 01: "2: connection above 15"
abbrev pub is_connection : Table → ℕ → Bool
is_connection t c = ltb c (length t.connections)

-- 01: "3: packet or close, connection not open". The tests: the number is a connection's; it is open
unfoldable pub only_if_open : Bool → Bool → Table → Decision → Decision
only_if_open false is_open t d = silence 2 t
only_if_open true false t d = silence 3 t
only_if_open true true t d = d

-- 01: "4: open, already open"
unfoldable pub only_if_closed : Bool → Bool → Table → Decision → Decision
only_if_closed false is_open t d = silence 2 t
only_if_closed true true t d = silence 4 t
only_if_closed true false t d = d
