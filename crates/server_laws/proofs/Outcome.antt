-- One walk through the server's definitions: what an event can come to, as a type of cases. Each case carries what the searches
-- found, so that a theorem about all events is one clause for each case. Assumes nothing.
use Prim.Native.Nat.{ℕ, suc, ◌<◌}
use mathlib.Core.Path.{◌≡◌, refl}
use mathlib.Core.Bool.{Bool, true, false}
use Rattle.std.specs.Prelude.{Option, Some, None}
use mathlib.Core.List.{List, [], ◌∷◌}
use lib.ListN.{length}
use lib.Dec.{ltb}
use borrow.Author.Tests.{ltb-true, lt-ltb}
use Rattle.octets.specs.Bytes.{Bytes, same}
use Rattle.lists.proofs.Cases.{cond_cases}
use Rattle.server.specs.Table.{Table, connection_at, function_at, job_at, set_connection, set_id, set_function, set_job, with_row, with_holder, known, room_for, best, free_place, joined, job_of}
use Rattle.server.specs.Requests.{Event, opens, closes, sends, Work, Request, reset, pre_sleep, echo, bad, can_do, cant_do, identify, grab, submit, work, get_status, option, request_in}
use Rattle.server.specs.Events.{Send, plain, copy, assign, Decision, silence, refuse, settle, opening, closing, able_to, unable, can_do_at, cant_do_at, unable_to_all, sleeping, grab_at, submitted_by, created, new_job, accepted, submit_new, submit_to, to_listeners, worked, work_at, status_of, status_at, exceptions_name, catching, option_if, served, is_connection, only_if_open, only_if_closed, held_job_of}
use Rattle.server.specs.Server.{Server, decided}

-- ---- what a request that is done changes and sends, before the table is settled

pub data Change (c : ℕ) (t : Table) : Request → List Send → Table → Type 0 where
  able : (f : Bytes) (q : ℕ) → room_for t.functions f ≡ Some q → Change c t (can_do f) [] (set_function t q (able_to c f (function_at t q)))
  unknown : (f : Bytes) → known t.functions f ≡ None → Change c t (cant_do f) [] t
  disabled : (f : Bytes) (q : ℕ) → known t.functions f ≡ Some q → Change c t (cant_do f) [] (set_function t q (unable c (function_at t q)))
  identified : (i : Bytes) → Change c t (identify i) [] (set_id t c i)
  cleared : Change c t reset [] (unable_to_all c t)
  slept : Change c t pre_sleep [] (sleeping true c t)
  no_job_for : (uniq : Bool) → best t c ≡ None → Change c t (grab uniq) (plain c 10 [] ∷ []) (sleeping false c t)
  grabbed : (uniq : Bool) (p : ℕ) → best t c ≡ Some p
      → Change c t (grab uniq) (assign uniq c p ∷ []) (set_job (sleeping false c t) p (with_row (with_holder (suc c) (job_at (sleeping false c t) p).row) (job_at (sleeping false c t) p)))
  joins : (priority : ℕ) (background : Bool) (f u : Bytes) (size p : ℕ) → joined t f u ≡ Some p
      → Change c t (submit priority background f u size) (created t.hub c (job_at t p).row.serial ∷ []) (set_job t p (with_row (submitted_by c background (job_at t p).row) (job_at t p)))
  accepts : (priority : ℕ) (background : Bool) (f u : Bytes) (size q p : ℕ) → joined t f u ≡ None → room_for t.functions f ≡ Some q → free_place t ≡ Some p → t.last < 4294967295
      → Change c t (submit priority background f u size) (created t.hub c (suc t.last) ∷ []) (accepted q f p (new_job c priority background q u size (suc t.last)) t)
  worker : (how : Work) (kind : ℕ) (h n d : Bytes) (p : ℕ) → held_job_of t c h ≡ Some p
      → Change c t (work how kind h n d) (to_listeners how kind t (job_at t p).row) (set_job t p (worked how n d (job_at t p)))
  status : (h : Bytes) (o : Option ℕ) → job_of t h ≡ o → Change c t (get_status h) (plain c 20 (status_of o h t) ∷ []) t
  optioned : (name : Bytes) → same name exceptions_name ≡ true → Change c t (option name) (plain c 27 (name ∷ []) ∷ []) (set_connection t c (catching (connection_at t c)))
  echoed : Change c t echo (copy c 17 ∷ []) t

-- why a request is refused, and by which number
pub data Refuses (c : ℕ) (t : Table) : Request → ℕ → Type 0 where
  unread : (n : ℕ) → Refuses c t (bad n) n
  no_room : (f : Bytes) → room_for t.functions f ≡ None → Refuses c t (can_do f) 11
  no_function : (priority : ℕ) (background : Bool) (f u : Bytes) (size : ℕ) → joined t f u ≡ None → room_for t.functions f ≡ None
      → Refuses c t (submit priority background f u size) 11
  no_place : (priority : ℕ) (background : Bool) (f u : Bytes) (size q : ℕ) → joined t f u ≡ None → room_for t.functions f ≡ Some q → free_place t ≡ None
      → Refuses c t (submit priority background f u size) 12
  no_serial : (priority : ℕ) (background : Bool) (f u : Bytes) (size q p : ℕ) → joined t f u ≡ None → room_for t.functions f ≡ Some q → free_place t ≡ Some p
      → ltb t.last 4294967295 ≡ false → Refuses c t (submit priority background f u size) 13
  not_held : (how : Work) (kind : ℕ) (h n d : Bytes) → held_job_of t c h ≡ None → Refuses c t (work how kind h n d) 14
  no_option : (name : Bytes) → same name exceptions_name ≡ false → Refuses c t (option name) 15

-- a request on a connection that is open
pub data Served (c : ℕ) (t : Table) : Request → Decision → Type 0 where
  refused : (a : Request) (n : ℕ) → Refuses c t a n → Served c t a (refuse c n t)
  done : (a : Request) (ss : List Send) (u : Table) → Change c t a ss u → Served c t a (settle ss u)

-- connection c is one of this table's, and is open or not
pub record Stands (t : Table) (c : ℕ) (is_open : Bool) : Type 0 where
  pub inside : c < length t.connections
  pub state : (connection_at t c).opened ≡ is_open

-- the connection that an event comes from
pub data From : Event → ℕ → Type 0 where
  by_open : (c : ℕ) → From (opens c) c
  by_close : (c : ℕ) → From (closes c) c
  by_packet : (c : ℕ) (b : Bytes) → From (sends c b) c

-- why an event is refused before anything is read, and by which number
pub data Silences (t : Table) : Event → ℕ → Type 0 where
  no_connection : {e : Event} {c : ℕ} → From e c → is_connection t c ≡ false → Silences t e 2
  closes_none : (c : ℕ) → Stands t c false → Silences t (closes c) 3
  sends_closed : (c : ℕ) (b : Bytes) → Stands t c false → Silences t (sends c b) 3
  opens_twice : (c : ℕ) → Stands t c true → Silences t (opens c) 4

-- an event
pub data Outcome (t : Table) : Event → Decision → Type 0 where
  silenced : (e : Event) (n : ℕ) → Silences t e n → Outcome t e (silence n t)
  opened : (c : ℕ) → Stands t c false → Outcome t (opens c) (settle [] (opening c t))
  closed : (c : ℕ) → Stands t c true → Outcome t (closes c) (settle [] (closing c t))
  serves : (c : ℕ) (b : Bytes) (d : Decision) → Stands t c true → Served c t (request_in b) d → Outcome t (sends c b) d

-- ---- the walk

module _ (c : ℕ) (t : Table) where
  ok : {a : Request} {ss : List Send} {u : Table} → Change c t a ss u → Served c t a (settle ss u)
  ok m = done _ _ _ m

  o_can_do : (f : Bytes) (o : Option ℕ) → room_for t.functions f ≡ o → Served c t (can_do f) (can_do_at o c f t)
  unfolding can_do_at
  o_can_do f None e = refused _ _ (no_room f e)
  o_can_do f (Some q) e = ok (able f q e)

  o_cant_do : (f : Bytes) (o : Option ℕ) → known t.functions f ≡ o → Served c t (cant_do f) (cant_do_at o c t)
  unfolding cant_do_at
  o_cant_do f None e = ok (unknown f e)
  o_cant_do f (Some q) e = ok (disabled f q e)

  o_grab : (uniq : Bool) (o : Option ℕ) → best t c ≡ o → Served c t (grab uniq) (grab_at o uniq c (sleeping false c t))
  unfolding grab_at
  o_grab uniq None e = ok (no_job_for uniq e)
  o_grab uniq (Some p) e = ok (grabbed uniq p e)

  o_work : (how : Work) (kind : ℕ) (h n d : Bytes) (o : Option ℕ) → held_job_of t c h ≡ o → Served c t (work how kind h n d) (work_at o how kind c n d t)
  unfolding work_at
  o_work how kind h n d None e = refused _ _ (not_held how kind h n d e)
  o_work how kind h n d (Some p) e = ok (worker how kind h n d p e)

  o_status : (h : Bytes) (o : Option ℕ) → job_of t h ≡ o → Served c t (get_status h) (status_at o c h t)
  unfolding status_at
  o_status h o e = ok (status h o e)

  o_option : (name : Bytes) (b : Bool) → same name exceptions_name ≡ b → Served c t (option name) (option_if b c name t)
  unfolding option_if
  o_option name false e = refused _ _ (no_option name e)
  o_option name true e = ok (optioned name e)

  o_new : (priority : ℕ) (background : Bool) (f u : Bytes) (size : ℕ) → joined t f u ≡ None → (o r : Option ℕ) → room_for t.functions f ≡ o → free_place t ≡ r
      → Served c t (submit priority background f u size) (submit_new o r c priority background f u size t)
  unfolding submit_new
  o_new priority background f u size j None r e g = refused _ _ (no_function priority background f u size j e)
  o_new priority background f u size j (Some q) None e g = refused _ _ (no_place priority background f u size q j e g)
  o_new priority background f u size j (Some q) (Some p) e g =
      cond_cases (Served c t (submit priority background f u size)) (ltb t.last 4294967295)
      (λ h. ok (accepts priority background f u size q p j e g (ltb-true t.last 4294967295 h)))
      (λ h. refused _ _ (no_serial priority background f u size q p j e g h))

  o_submit : (priority : ℕ) (background : Bool) (f u : Bytes) (size : ℕ) (o : Option ℕ) → joined t f u ≡ o
      → Served c t (submit priority background f u size) (submit_to o c priority background f u size t)
  unfolding submit_to
  o_submit priority background f u size None e = o_new priority background f u size e (room_for t.functions f) (free_place t) refl refl
  o_submit priority background f u size (Some p) e = ok (joins priority background f u size p e)

  pub served_by : (a : Request) → Served c t a (served c a t)
  unfolding served
  served_by (bad n) = refused _ _ (unread n)
  served_by (can_do f) = o_can_do f (room_for t.functions f) refl
  served_by (cant_do f) = o_cant_do f (known t.functions f) refl
  served_by (identify i) = ok (identified i)
  served_by reset = ok cleared
  served_by pre_sleep = ok slept
  served_by (grab uniq) = o_grab uniq (best t c) refl
  served_by (submit priority background f u size) = o_submit priority background f u size (joined t f u) refl
  served_by (work how kind h n d) = o_work how kind h n d _ refl
  served_by (get_status h) = o_status h _ refl
  served_by (option name) = o_option name _ refl
  served_by echo = ok echoed

module _ (t : Table) (c : ℕ) where
  -- what an event comes to that only an open connection may bring, or only a closed one
  if_open : {e : Event} (d : Decision) → From e c → (Stands t c false → Silences t e 3) → (Stands t c true → Outcome t e d)
      → (b o : Bool) → is_connection t c ≡ b → (connection_at t c).opened ≡ o → Outcome t e (only_if_open b o t d)
  unfolding only_if_open
  if_open d f bars lets false o i s = silenced _ 2 (no_connection f i)
  if_open d f bars lets true false i s = silenced _ 3 (bars (record { inside = ltb-true c (length t.connections) i; state = s }))
  if_open d f bars lets true true i s = lets (record { inside = ltb-true c (length t.connections) i; state = s })

  if_closed : {e : Event} (d : Decision) → From e c → (Stands t c true → Silences t e 4) → (Stands t c false → Outcome t e d)
      → (b o : Bool) → is_connection t c ≡ b → (connection_at t c).opened ≡ o → Outcome t e (only_if_closed b o t d)
  unfolding only_if_closed
  if_closed d f bars lets false o i s = silenced _ 2 (no_connection f i)
  if_closed d f bars lets true true i s = silenced _ 4 (bars (record { inside = ltb-true c (length t.connections) i; state = s }))
  if_closed d f bars lets true false i s = lets (record { inside = ltb-true c (length t.connections) i; state = s })

pub outcome : (e : Event) (s : Server) → Outcome s.table e (decided e s)
unfolding decided
outcome (opens c) s = if_closed s.table c _ (by_open c) (opens_twice c) (opened c) _ _ refl refl
outcome (closes c) s = if_open s.table c _ (by_close c) (closes_none c) (closed c) _ _ refl refl
outcome (sends c b) s = if_open s.table c _ (by_packet c b) (sends_closed c b) (λ o. serves c b _ o (served_by c s.table (request_in b))) _ _ refl refl

-- ---- what is decided where the connection stands as the event asks

module _ (s : Server) (c : ℕ) where
  pub opening_decided : Stands s.table c false → decided (opens c) s ≡ settle [] (opening c s.table)
  unfolding decided only_if_closed
  opening_decided o = rw (lt-ltb c (length s.table.connections) o.inside, o.state)

  pub closing_decided : Stands s.table c true → decided (closes c) s ≡ settle [] (closing c s.table)
  unfolding decided only_if_open
  closing_decided o = rw (lt-ltb c (length s.table.connections) o.inside, o.state)

  pub served_decided : (b : Bytes) → Stands s.table c true → decided (sends c b) s ≡ served c (request_in b) s.table
  unfolding decided only_if_open
  served_decided b o = rw (lt-ltb c (length s.table.connections) o.inside, o.state)
