-- What it is that two calls agree in everything but opaque bytes, and which packets may differ at all. Demand 3. Assumes nothing.
use Rattle.std.specs.Prelude.{ℕ, ◌≡◌, Bool, true, false, cond, List, [], ◌∷◌, ◌++◌, length, get_or, take, drop, Some}
use Rattle.octets.specs.Bytes.{Bytes}
use Rattle.handle.specs.Handle.{handle}
use Rattle.sets.specs.Sets.{has}
use Rattle.packet.specs.Packet.{got}
use Rattle.server.specs.Table.{Table, job_at}
use Rattle.server.specs.Requests.{Event, sends, Work, work, echo, request_in}
use Rattle.server.specs.Events.{hears, held_job_of}
use Rattle.server.specs.Layout.{table_size}
use Rattle.server.specs.Call.{Result}
use Rattle.server_calls.specs.History.{Call, Memory}
use Rattle.lists.proofs.Cases.{All2}
use Rattle.server_blind.proofs.Outputs.{Both}
use Rattle.demands.specs.Messages.{Addressed, message_in, hidden_in, packets_in, written, arguments_of}
use Rattle.demands.specs.Listening.{option_in}
use Rattle.demands.specs.Handles.{is_made}
use Rattle.demands.specs.Hub.{call_on, kept, after_calls, results_of, table_in, server_of}

-- the same number and length, the same table; the opaque parts of the packets lie at the same places, and every written byte outside them
-- is equal; beyond the reported length each output is as it was lent
pub record AlikeResults (n : ℕ) (x y : Call) (r q : Result) : Type 0 where
  pub number : r.number ≡ q.number
  pub length' : r.length' ≡ q.length'
  pub table : take (table_size n) r.table ≡ take (table_size n) q.table
  pub hidden : hidden_in (packets_in (written r)) ≡ hidden_in (packets_in (written q))
  pub bytes : (i : ℕ) → get_or (hidden_in (packets_in (written r))) i true ≡ false → get_or (written r) i 0 ≡ get_or (written q) i 0
  pub beyond : drop r.length' r.output ≡ drop r.length' x.output
  pub beyond_too : drop q.length' q.output ≡ drop q.length' y.output

-- ---- the packets that carry an event's own opaque bytes

-- to whom, and by which type: the ECHO_RES to the sender of an echo; and a worker packet's copy to a listener of the job that it names
-- and that its sender holds, of an exception to those alone that set the option
pub data Copied (t : Table) : Event → ℕ → ℕ → Type 0 where
  echoed : (c : ℕ) (b : Bytes) → request_in b ≡ echo → Copied t (sends c b) c 17
  forwarded : (c : ℕ) (b : Bytes) (how : Work) (kind : ℕ) (h n d : Bytes) → request_in b ≡ work how kind h n d
      → (p : ℕ) → held_job_of t c h ≡ Some p → (l : ℕ) → has (job_at t p).row.listeners l ≡ true → hears how t l ≡ true → Copied t (sends c b) l kind

-- two packets that the events e and f send: the same one, to the byte; or the copies, each with the arguments of its own event's packet
pub data ButCopies (t : Table) (e f : Event) (a b : Addressed) : Type 0 where
  equal : a ≡ b → ButCopies t e f a b
  copies : (to kind : ℕ) → Copied t e to kind → message_in a ≡ record { to = to; says = got kind (arguments_of e) } → message_in b ≡ record { to = to; says = got kind (arguments_of f) } → ButCopies t e f a b

-- two packets that the exceptions e and f send: the same one, to the byte; or their copies to a listener that has set the option
pub data ButExceptions (t : Table) (e f : Event) (a b : Addressed) : Type 0 where
  equal : a ≡ b → ButExceptions t e f a b
  thrown : (to : ℕ) → Copied t e to 25 → option_in t to ≡ true → message_in a ≡ record { to = to; says = got 25 (arguments_of e) } → message_in b ≡ record { to = to; says = got 25 (arguments_of f) }
      → ButExceptions t e f a b

-- ---- the packets that carry a stored workload

-- two packets: the same one, to the byte; or two assignments of the job with this handle to one connection, JOB_ASSIGN or JOB_ASSIGN_UNIQ, with
-- workloads of one length
pub data ButWorkload (h : Bytes) (a b : Addressed) : Type 0 where
  equal : a ≡ b → ButWorkload h a b
  assigned : (to : ℕ) (uniq : Bool) (function : Bytes) (more : List Bytes) (w v : Bytes) → length w ≡ length v
      → message_in a ≡ record { to = to; says = got (cond uniq 31 11) (h ∷ function ∷ (more ++ (w ∷ []))) }
      → message_in b ≡ record { to = to; says = got (cond uniq 31 11) (h ∷ function ∷ (more ++ (v ∷ []))) } → ButWorkload h a b

-- ---- one changed packet

-- R relates the packets of two calls, as they lie in the outputs
abbrev pub Packets : (Addressed → Addressed → Type 0) → Call → Call → Result → Result → Type 0
Packets R x y r q = All2 R (packets_in (written r)) (packets_in (written q))

-- what the calls xs and ys, with the same events, tell on memory u and v, which two calls left that were alike and began with m. If they
-- made no job, as when a submission joins one or is refused, nothing at all differs: not the workloads either. If they made the job with
-- serial k, nothing differs but the workload in assignments of that job, and of the workloads only its place.
pub data Later (n : ℕ) (m u v : Memory) (xs ys : List Call) : Type 0 where
  made_none : ((h : Bytes) → is_made h (table_in n m) (table_in n u) ≡ false) → server_of n u ≡ server_of n v → Both (Packets (λ a b. a ≡ b)) xs ys (results_of n xs u) (results_of n ys v) → Later n m u v xs ys
  made_one : (k : ℕ) → is_made (handle (table_in n m).hub k) (table_in n m) (table_in n u) ≡ true → Both (Packets (ButWorkload (handle (table_in n m).hub k))) xs ys (results_of n xs u) (results_of n ys v)
      → ((p : ℕ) → ¬ ((job_at (table_in n (after_calls n xs u)) p).row.serial ≡ k) → get_or (server_of n (after_calls n xs u)).workloads p [] ≡ get_or (server_of n (after_calls n ys v)).workloads p [])
      → Later n m u v xs ys

-- the calls x on m and y on w, alike, and then the calls xs and ys, with the same events
pub record One (n : ℕ) (m w : Memory) (x y : Call) (xs ys : List Call) : Type 0 where
  pub itself : AlikeResults n x y (call_on n m x) (call_on n w y)
  pub packets : Packets (ButCopies (table_in n m) x.event y.event) x y (call_on n m x) (call_on n w y)
  pub others : Both (AlikeResults n) xs ys (results_of n xs (kept (call_on n m x))) (results_of n ys (kept (call_on n w y)))
  pub later : Later n m (kept (call_on n m x)) (kept (call_on n w y)) xs ys

-- the calls x on m and y on w bring two exceptions that differ in opaque bytes alone, and the calls xs and ys have the same events. 02: "a
-- changed exception may show only in the copies that carry it; the WORK_FAIL packets agree"
pub record OneException (n : ℕ) (m w : Memory) (x y : Call) (xs ys : List Call) : Type 0 where
  pub packets : Packets (ButExceptions (table_in n m) x.event y.event) x y (call_on n m x) (call_on n w y)
  pub stored : server_of n (kept (call_on n m x)) ≡ server_of n (kept (call_on n w y))
  pub later : Both (Packets (λ a b. a ≡ b)) xs ys (results_of n xs (kept (call_on n m x))) (results_of n ys (kept (call_on n w y)))
