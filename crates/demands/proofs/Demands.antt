-- The three demands, of the bytes that a host sees. A host's memory is any that is long enough and whose table breaks no rule
-- (`Hub`): a fresh table is one, and whatever calls leave is one. Assumes nothing.
use Prim.Native.Nat.{ℕ, ◌≤◌}
use mathlib.Core.Path.{◌≡◌}
use mathlib.Core.Bool.{true, false, ◌||◌}
use mathlib.Core.List.{List}
use lib.ListN.{length, take, drop, replicate}
use Rattle.octets.specs.Bytes.{Bytes, every}
use Rattle.handle.specs.Handle.{handle, is_hub_name}
use Rattle.packet.specs.Packet.{read, requests}
use Rattle.server.specs.Sizes.{workloads_size}
use Rattle.server.specs.Requests.{Event, sends, from_reading, request_in}
use Rattle.server.specs.Server.{Server, start}
use Rattle.server.specs.Layout.{table_of, table_size}
use Rattle.server.specs.Call.{made, make, refused_by, call}
use Rattle.server_calls.specs.History.{Call, Memory}
use Rattle.server_calls.proofs.Follows.{Running, table_with, workloads_with}
use Rattle.server_calls.proofs.Histories.{LongOutputs}
use Rattle.server_blind.proofs.Alike.{Alike}
use Rattle.server_blind.proofs.Outputs.{Both}
use Rattle.server_blind.proofs.Calls.{AlikeEvents}
use Rattle.server_blind.proofs.LoneCalls.{SameEvents}
use Rattle.prints.specs.Printed.{is_readable}
use Rattle.command.specs.Order.{in_order}
use Rattle.command.specs.Texts.{text_for}
use Rattle.command.specs.Say.{say}
use Rattle.demands.specs.Messages.{told, arguments_of}
use Rattle.demands.specs.Answered.{Answered}
use Rattle.demands.specs.Conditions.{first, conditions, line_conditions, type_of}
use Rattle.demands.specs.Listening.{heard, listens, catches, option_in, result_for, EachOnce}
use Rattle.demands.specs.Exact.{Walk}
use Rattle.demands.specs.Blind.{AlikeResults, One, OneException}
use Rattle.demands.specs.Commands.{Said, Listed, Counted, SameText}
use Rattle.demands.specs.Handles.{is_ending, given, stands, is_made, reading_tells, Spent}
use Rattle.demands.specs.Hub.{Hub, Room, Long, call_on, kept, after_calls, results_of, table_in, server_of, fresh_memory, restarted}
use Rattle.demands.proofs.Hubs.{hub_with, hub_fresh, fresh_server, calls_hub}
use Rattle.demands.proofs.Answering.{call_answered}
use Rattle.demands.proofs.Numbers.{number_first}
use Rattle.demands.proofs.Walking.{walk_hub}
use Rattle.demands.proofs.Handles.{call_stands, call_makes, call_unheard, calls_gone}
use Rattle.demands.proofs.Names.{make_refused, make_long_named, make_done, fresh_name, zeros_refused, calls_name, call_named, work_named, calls_foreign, calls_apart}
use Rattle.demands.proofs.Restart.{restart_hub, told_restart}
use Rattle.demands.proofs.Options.{calls_option}
use Rattle.demands.proofs.Results.{calls_heard, call_tells_each, call_ends, fresh_results}
use Rattle.demands.proofs.Unmasked.{request_read}
use Rattle.demands.proofs.Agreeing.{histories_agree}
use Rattle.demands.proofs.OneChanged.{one_changed}
use Rattle.demands.proofs.Exceptions.{one_exception}
use Rattle.demands.proofs.Commands.{say_said, say_readable, say_number, hub_lists, hub_counts, texts_alike}

-- ---- the memory

-- making a fresh table for a hub's name leaves such memory
pub fresh_hub : (n : ℕ) (name : Bytes) → is_hub_name name ≡ true → (t w : Bytes) → Room n t w → Hub n (fresh_memory n name t w)
fresh_hub = hub_fresh

-- it holds the fresh server of the definitions
pub fresh_holds : (n : ℕ) (name : Bytes) → is_hub_name name ≡ true → (t w : Bytes) → Room n t w → server_of n (fresh_memory n name t w) ≡ start n name
fresh_holds = fresh_server

-- so does whatever a server that runs is laid into
pub running_hub : (n : ℕ) (t w : Bytes) → Room n t w → (s : Server) → Running n s → Hub n (record { table = table_with s t; workloads = workloads_with s w })
running_hub n t w r s h = hub_with n r.few s h t w r.long_table r.long_workloads

-- and any calls on such memory leave such memory
pub later_hub : (n : ℕ) (xs : List Call) (m : Memory) → Hub n m → LongOutputs n xs → Hub n (after_calls n xs m)
later_hub = calls_hub

-- ---- demand 1

-- any event on any bytes, of any length and content: done, or refused with table and workloads kept and the output untouched, or refused
-- with one ERROR packet to the sender and nothing else changed
pub demand_1 : (n : ℕ) (e : Event) (t w o : Bytes) → Answered e t w o (call n e t w o)
demand_1 = call_answered

-- and the number is that of the first row of document 01's table whose condition holds, 0 where none does
pub demand_1_number : (n : ℕ) (t w o : Bytes) (e : Event) → (call n e t w o).number ≡ first (conditions n e t w o)
demand_1_number = number_first

-- ---- demand 2

-- number, length, output, table and workloads of each call of a history are those of the server of the definitions, and each packet reads
-- back, by the packet layer, to its type and arguments
pub demand_2 : (n : ℕ) (m : Memory) → Hub n m → (xs : List Call) → LongOutputs n xs → Walk m.table m.workloads (server_of n m) xs (results_of n xs m)
demand_2 = walk_hub

-- the server reads a packet with its opaque bytes set to zero. That changes nothing that is asked: it is what the packet layer reads
pub asked_as_read : (b : Bytes) → request_in b ≡ from_reading (read requests b)
asked_as_read = request_read

module _ (n : ℕ) (m : Memory) (hub : Hub n m) where
  -- ---- handles

  -- whatever handle a packet of types 8, 11 or 31 gives, a job that stands in the table before the call has it, or the job that the call
  -- makes
  pub handle_stands : (h : Bytes) (x : Call) → Long n x → given h (told (call_on n m x)) ≡ true
      → stands h (table_in n m) || is_made h (table_in n m) (table_in n (kept (call_on n m x))) ≡ true
  handle_stands = call_stands n m hub

  -- the call that makes a job gives its handle out
  pub handle_told : (h : Bytes) (x : Call) → Long n x → is_made h (table_in n m) (table_in n (kept (call_on n m x))) ≡ true → given h (told (call_on n m x)) ≡ true
  handle_told = call_makes n m hub

  -- "A handle is never given to a second job": where the call y makes a job, no earlier call x gave its handle to anybody
  pub handle_new : (h : Bytes) (x : Call) → Long n x → (between : List Call) → LongOutputs n between → (y : Call) → Long n y
      → let u = after_calls n between (kept (call_on n m x)) in is_made h (table_in n u) (table_in n (kept (call_on n u y))) ≡ true → given h (told (call_on n m x)) ≡ false
  handle_new = call_unheard n m hub

  -- a job stood, and after some calls it is gone: after any calls more, its connection closed and opened again included, no call gives
  -- its handle out, and every worker packet that names it is refused by 14
  pub handle_gone : (h : Bytes) → stands h (table_in n m) ≡ true → (between : List Call) → LongOutputs n between → stands h (table_in n (after_calls n between m)) ≡ false
      → (later : List Call) → LongOutputs n later → Spent n h (after_calls n later (after_calls n between m))
  handle_gone = calls_gone n m hub

  -- ---- results

  -- who listens to a job is exactly who was told its handle by JOB_CREATED, in answer to a foreground submission of its own, since it
  -- opened its connection, by the events and the packets of the history alone (`heard`); who listened when it began counts as told
  pub listeners_told : (c : ℕ) (h : Bytes) (xs : List Call) → LongOutputs n xs → stands h (table_in n (after_calls n xs m)) ≡ true
      → listens c h (table_in n (after_calls n xs m)) ≡ heard c h (listens c h (table_in n m)) xs (results_of n xs m)
  listeners_told c h xs = calls_heard n c h xs m hub

  -- who has set the option is exactly who sent OPTION_REQ since it opened its connection, and was not refused, by the events and the
  -- numbers of the history alone (`catches`); who had set it when it began counts
  pub options_set : (c : ℕ) (xs : List Call) → LongOutputs n xs → option_in (table_in n (after_calls n xs m)) c ≡ catches c (option_in (table_in n m) c) xs (results_of n xs m)
  options_set c xs = calls_option c n xs m hub

  -- a worker packet that is done: one packet to each listener of the very job that it names, in rising order, and no other packet at all.
  -- It is a copy, with the data as it came; of type 25 only where the listener set the option, and otherwise WORK_FAIL with the handle
  pub results_go : (x : Call) → Long n x → (d : ℕ) (b h : Bytes) → x.event ≡ sends d b → reading_tells h (read requests b) ≡ true → (call_on n m x).number ≡ 0
      → EachOnce (λ l. listens l h (table_in n m)) (result_for (option_in (table_in n m)) (type_of b) (arguments_of (sends d b)) h) (told (call_on n m x))
  results_go = call_tells_each n m hub

  -- "13 and 14 end the job", "25 ends the job": once such a packet is done its job stands no more, whatever its listeners got; so
  -- `handle_gone` is said of its handle
  pub results_end : (x : Call) → Long n x → (d : ℕ) (b h : Bytes) → x.event ≡ sends d b → reading_tells h (read requests b) ≡ true → is_ending (type_of b) ≡ true → (call_on n m x).number ≡ 0
      → stands h (table_in n (kept (call_on n m x))) ≡ false
  results_end = call_ends n m hub

-- all together, from a fresh table on: a result goes exactly to those who were told this very handle since their open, and an exception
-- to those of them who asked for exceptions since then; the others hear WORK_FAIL
pub results_told : (n : ℕ) (name : Bytes) → is_hub_name name ≡ true → (t w : Bytes) → Room n t w → (xs : List Call) → LongOutputs n xs → let m = fresh_memory n name t w in let u = after_calls n xs m in
    (x : Call) → Long n x → (d : ℕ) (b h : Bytes) → x.event ≡ sends d b → reading_tells h (read requests b) ≡ true → (call_on n u x).number ≡ 0
    → EachOnce (λ l. heard l h false xs (results_of n xs m)) (result_for (λ l. catches l false xs (results_of n xs m)) (type_of b) (arguments_of (sends d b)) h) (told (call_on n u x))
results_told = fresh_results

-- ---- demand 3

-- two histories whose events differ in opaque bytes alone, on two hosts' memories whose tables are equal, whatever else differs in them
-- (the workloads, the bytes beyond the layout, the lengths) and whatever outputs are lent: every two calls agree in everything but opaque
-- bytes
pub demand_3 : (n : ℕ) {xs ys : List Call} → AlikeEvents xs ys → LongOutputs n xs → LongOutputs n ys → (m w : Memory) → Hub n m → Hub n w → table_in n m ≡ table_in n w
    → Both (AlikeResults n) xs ys (results_of n xs m) (results_of n ys w)
demand_3 = histories_agree

-- one packet alone has other opaque bytes, of whatever type, refused or not, and all calls after it have the same events: besides, only the
-- copies of that packet differ, then only the workload in assignments of the job that it made, and no other packet to anybody
pub demand_3_one : (n : ℕ) (m w : Memory) → Hub n m → Hub n w → server_of n m ≡ server_of n w → (x y : Call) → Long n x → Long n y → Alike x.event y.event
    → {xs ys : List Call} → SameEvents xs ys → LongOutputs n xs → LongOutputs n ys → One n m w x y xs ys
demand_3_one = one_changed

-- the changed packet is WORK_EXCEPTION. 02, ask 3: "a changed exception may show only in the copies that carry it; the WORK_FAIL packets
-- agree": of the packets that it sends only its copies to listeners that set the option differ; nothing of it is stored, and no packet
-- differs later
pub demand_3_exception : (n : ℕ) (m w : Memory) → Hub n m → Hub n w → server_of n m ≡ server_of n w → (x y : Call) → Long n x → Long n y → Alike x.event y.event
    → (c : ℕ) (b : Bytes) → x.event ≡ sends c b → type_of b ≡ 25 → {xs ys : List Call} → SameEvents xs ys → LongOutputs n xs → LongOutputs n ys → OneException n m w x y xs ys
demand_3_exception = one_exception

-- ---- text commands: 02, ask 1

-- a technician's line, any bytes, from any connection on any lent bytes: the output begins with the connection's byte and one text, which
-- the table alone determines, and table and workloads stay; or it is refused by 1, 2 or 3, and nothing changes
pub text_said : (n c : ℕ) (line t w o : Bytes) → Said c (text_for line (table_of n t)) t w o (say n c line t w o)
text_said = say_said

-- and the number is that of the first of these three rows that holds, 0 where none does
pub text_number : (n c : ℕ) (line t w o : Bytes) → (say n c line t w o).number ≡ first (line_conditions n c t w o)
text_number = say_number

-- what `status` lists, and of which `workers` lists those of each connection: each known function once, in rising byte order of name
pub text_lists : (n : ℕ) (m : Memory) → Hub n m → Listed (table_in n m).functions (in_order (table_in n m).functions)
text_lists = hub_lists

-- its counts are the table's
pub text_counts : (n : ℕ) (m : Memory) → Hub n m → (q : ℕ) → Counted (table_in n m) q
text_counts = hub_counts

-- every byte of a text, behind the connection's byte, is 32 to 126, a tab or a line feed, whatever the lent bytes hold: a terminal shows
-- it or lays it out. What is printed of a name or an id is 33 to 126 (`prints/Printed: printed_readable`)
pub text_readable : (n c : ℕ) (line t w o : Bytes) → every is_readable (drop 1 (take (say n c line t w o).length' (say n c line t w o).output)) ≡ true
text_readable = say_readable

-- "No text depends on an opaque byte": after two histories whose events differ in opaque bytes alone, on memories whose tables are equal,
-- every line is answered by the same number and the same text
pub text_blind : (n : ℕ) {xs ys : List Call} → AlikeEvents xs ys → LongOutputs n xs → LongOutputs n ys → (m k : Memory) → Hub n m → Hub n k → table_in n m ≡ table_in n k
    → (c : ℕ) (line o : Bytes) → let u = after_calls n xs m in let v = after_calls n ys k in SameText (say n c line u.table u.workloads o) (say n c line v.table v.workloads o)
text_blind = texts_alike

-- ---- the hub's name: 02, ask 5

-- making a table under any name on any bytes: it is made exactly if both buffers are long enough and the name is a hub's
pub fresh_done : (n : ℕ) (name t w : Bytes) → table_size n ≤ length t → workloads_size ≤ length w → is_hub_name name ≡ true → (make n name t w).number ≡ 0
fresh_done = make_done

pub fresh_good : (n : ℕ) (name t w : Bytes) → (make n name t w).number ≡ 0 → (table_size n ≤ length t) × (workloads_size ≤ length w) × (is_hub_name name ≡ true)
fresh_good = make_long_named

-- otherwise it is refused by 1, and nothing is written
pub fresh_refused : (n : ℕ) (name t w : Bytes) → ¬ ((make n name t w).number ≡ 0) → make n name t w ≡ made 1 t w
fresh_refused = make_refused

-- a fresh table has the name that it was made with
pub fresh_named : (n : ℕ) (name : Bytes) → is_hub_name name ≡ true → (t w : Bytes) → Room n t w → (table_in n (fresh_memory n name t w)).hub ≡ name
fresh_named = fresh_name

-- a table of zeros, which a host may have made by itself, has none: every call on it is refused by 1
pub name_missing : (n : ℕ) (e : Event) (k : ℕ) (w o : Bytes) → call n e (replicate k 0) w o ≡ refused_by 1 (replicate k 0) w o
name_missing = zeros_refused

module _ (n : ℕ) (m : Memory) (hub : Hub n m) where
  -- no call changes the name
  pub name_kept : (xs : List Call) → LongOutputs n xs → (table_in n (after_calls n xs m)).hub ≡ (table_in n m).hub
  name_kept = calls_name n m hub

  -- it stands in every handle that a packet of types 8, 11 or 31 gives
  pub handle_named : (h : Bytes) (x : Call) → Long n x → given h (told (call_on n m x)) ≡ true → (serial : ℕ) × (h ≡ handle (table_in n m).hub serial)
  handle_named = call_named n m hub

  -- and in that which a worker packet names, if it is done: so in all that it sends, whose handle is this one (`results_go`)
  pub results_named : (x : Call) → Long n x → (d : ℕ) (b h : Bytes) → x.event ≡ sends d b → reading_tells h (read requests b) ≡ true → (call_on n m x).number ≡ 0
      → (serial : ℕ) × (h ≡ handle (table_in n m).hub serial)
  results_named = work_named n m hub

  -- a handle that names another hub, whatever its serial, is nobody's, after any calls: no call gives it out, a worker packet that names it is
  -- refused by 14, and its status is unknown
  pub handle_foreign : (other : Bytes) → is_hub_name other ≡ true → ¬ (other ≡ (table_in n m).hub) → (serial : ℕ) → (xs : List Call) → LongOutputs n xs → Spent n (handle other serial) (after_calls n xs m)
  handle_foreign = calls_foreign n m hub

-- handles of two hubs never agree: what a call of one hub gives out, no call of a hub of another name does, in any two histories
pub hubs_apart : (n k : ℕ) (m w : Memory) → Hub n m → Hub k w → ¬ ((table_in n m).hub ≡ (table_in k w).hub) → (xs ys : List Call) → LongOutputs n xs → LongOutputs k ys
    → (x y : Call) → Long n x → Long k y → (h : Bytes) → given h (told (call_on n (after_calls n xs m) x)) ≡ true → given h (told (call_on k (after_calls k ys w) y)) ≡ false
hubs_apart = calls_apart

-- ---- restart

-- what is said of handles holds from one fresh table on: a second one of the same name begins with serial 1 again. But a fresh table, made of
-- any long enough buffers and any hub's name, into which the host writes bytes 0 to 3 of the old one, its last serial, is a host's memory
pub restart_runs : (n : ℕ) (old : Memory) → Hub n old → (name : Bytes) → is_hub_name name ≡ true → (t w : Bytes) → Room n t w → Hub n (restarted n old name t w)
restart_runs n old hub name good t w r = restart_hub n old hub name good t w r.long_table r.long_workloads

-- and no handle that a call x gave before the restart is given after it, nor is a late result for it taken, whichever name the new table has
pub restart_unheard : (n : ℕ) (m : Memory) → Hub n m → (h : Bytes) (x : Call) → Long n x → given h (told (call_on n m x)) ≡ true → (between : List Call) → LongOutputs n between
    → (name : Bytes) → is_hub_name name ≡ true → (t w : Bytes) → Room n t w → (later : List Call) → LongOutputs n later
    → Spent n h (after_calls n later (restarted n (after_calls n between (kept (call_on n m x))) name t w))
restart_unheard n m hub h x lx g between lb name good t w r = told_restart n m hub h x lx g between lb name good t w r.long_table r.long_workloads
