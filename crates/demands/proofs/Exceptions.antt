-- One exception of a history has other opaque bytes. 02: "a changed exception may show only in the copies that carry it; the WORK_FAIL
-- packets agree". Assumes nothing.
use Prim.Native.Nat.{ℕ}
use mathlib.Core.Path.{◌≡◌, refl, sym, ◌∙◌, subst}
use mathlib.Core.Bool.{true}
use mathlib.Core.List.{List}
use native.Mathlib.Omega.{arith}
use Rattle.octets.specs.Bytes.{Bytes}
use Rattle.handle.specs.Handle.{handle}
use Rattle.packet.specs.Layout.{request_shape}
use Rattle.packet.specs.Packet.{got, requests}
use Rattle.packet_laws.proofs.Packets.{read_got}
use Rattle.lists.proofs.Cases.{All2}
use Rattle.lists.proofs.Rows.{clash}
use Rattle.server.specs.Table.{Table}
use Rattle.server.specs.Requests.{Event, sends, Work, tells, reports, ends, throws, Request, echo, work, request_in}
use Rattle.server.specs.Events.{hears}
use Rattle.server.specs.Server.{Server}
use Rattle.server.specs.Call.{server_in}
use Rattle.server_laws.proofs.Serials.{IsSubmit, is_submit_lem, Submits, submits, numbered}
use Rattle.server_calls.specs.History.{Call, Memory}
use Rattle.server_calls.proofs.Histories.{LongOutputs}
use Rattle.server_blind.proofs.Alike.{Alike}
use Rattle.server_blind.proofs.Outputs.{Both}
use Rattle.server_blind.proofs.LoneCalls.{SameEvents}
use Rattle.demands.specs.Messages.{Addressed, message_in, arguments_of}
use Rattle.demands.specs.Listening.{option_in}
use Rattle.demands.specs.Handles.{is_made}
use Rattle.demands.specs.Conditions.{type_of}
use Rattle.demands.specs.Hub.{Hub, Long, call_on, kept, results_of, table_in, server_of}
use Rattle.demands.specs.Blind.{Copied, echoed, forwarded, ButCopies, copies, ButExceptions, thrown, Packets, Later, made_none, made_one, OneException}
use Rattle.demands.specs.Blind as B
use Rattle.demands.proofs.Arguments.{work_read, echo_read}
use Rattle.demands.proofs.Numbers.{throwing}
use Rattle.demands.proofs.Hubs.{call_next}
use Rattle.demands.proofs.Sorts.{is_submit}
use Rattle.demands.proofs.Submissions.{submission_typed}
use Rattle.demands.proofs.Gone.{work_kinds, made_creates}
use Rattle.demands.proofs.OneChanged.{one_changed}

-- ---- a packet of type 25

module _ (b : Bytes) (type : type_of b ≡ 25) where
  work_type : (how : Work) (kind : ℕ) (h n d : Bytes) → request_in b ≡ work how kind h n d → kind ≡ 25
  work_type how kind h n d q = let r = work_read b how kind h n d q in sym (read_got requests b kind r.args r.reads).typed ∙ type

  no_echo : ¬ (request_in b ≡ echo)
  unfolding request_shape
  no_echo q =
      let r = echo_read b q in
      let k : r.kind ≡ 25 = sym (read_got requests b r.kind r.args r.reads).typed ∙ type in
      let z : ◌≡◌ {A = ℕ} 0 1 = cc (rw k at r.shape) in
      absurd (omega arith)

-- only a listener with the option hears of it
hears_thrown : (how : Work) (t : Table) (l : ℕ) → throwing how ≡ true → hears how t l ≡ true → option_in t l ≡ true
hears_thrown tells t l e h = clash e refl
hears_thrown reports t l e h = clash e refl
hears_thrown ends t l e h = clash e refl
hears_thrown throws t l e h = h

-- ---- its packets

module _ (t : Table) (c : ℕ) (b : Bytes) (type : type_of b ≡ 25) (f : Event) where
  by_copy : {x y : Addressed} {to kind : ℕ} → Copied t (sends c b) to kind
      → message_in x ≡ record { to = to; says = got kind (arguments_of (sends c b)) } → message_in y ≡ record { to = to; says = got kind (arguments_of f) } → ButExceptions t (sends c b) f x y
  by_copy (echoed c b q) e₁ e₂ = absurd (no_echo b type q)
  by_copy (forwarded c b how kind h n d q p r l m w) e₁ e₂ =
      let k = work_type b type how kind h n d q in
      thrown l (rw k at (forwarded c b how kind h n d q p r l m w)) (hears_thrown how t l ((work_kinds b how kind h n d q).0 ∙ rw k) w) (rw k at e₁) (rw k at e₂)

  but_one : {x y : Addressed} → ButCopies t (sends c b) f x y → ButExceptions t (sends c b) f x y
  but_one (B.ButCopies.equal e) = B.ButExceptions.equal e
  but_one (copies to kind x e₁ e₂) = by_copy x e₁ e₂

  but_exceptions : {xs ys : List Addressed} → All2 (ButCopies t (sends c b) f) xs ys → All2 (ButExceptions t (sends c b) f) xs ys
  but_exceptions All2.none = All2.none
  but_exceptions (All2.more p ps) = All2.more (but_one p) (but_exceptions ps)

-- ---- what comes later

-- it makes no job
makes_none : (c : ℕ) (b : Bytes) → type_of b ≡ 25 → {d : ℕ} → ¬ Submits (sends c b) d
makes_none c b type (submits d x i) = clash (submission_typed b (is i)) (rw type)
  where
    is : {a : Request} → IsSubmit a → is_submit a ≡ true
    is is_submit_lem = refl

module _ (n : ℕ) (m w : Memory) (hm : Hub n m) (hw : Hub n w) (same : server_of n m ≡ server_of n w) (x y : Call) (lx : Long n x) (ly : Long n y) (a : Alike x.event y.event)
    (c : ℕ) (b : Bytes) (q : x.event ≡ sends c b) (type : type_of b ≡ 25) {xs ys : List Call} (rest : SameEvents xs ys) (lxs : LongOutputs n xs) (lys : LongOutputs n ys) where
  -- so nothing at all differs later
  later_same : Later n m (kept (call_on n m x)) (kept (call_on n w y)) xs ys
      → (server_of n (kept (call_on n m x)) ≡ server_of n (kept (call_on n w y))) × Both (Packets (λ a b. a ≡ b)) xs ys (results_of n xs (kept (call_on n m x))) (results_of n ys (kept (call_on n w y)))
  unfolding server_in
  later_same (made_none f e p) = (e, p)
  later_same (made_one k z p f) =
      let (i, e, d) = made_creates x.event (server_of n m) (handle (table_in n m).hub k) (subst (λ (s : Server). is_made (handle (table_in n m).hub k) (table_in n m) s.table ≡ true) (call_next n m hm x lx) z) in
      absurd (makes_none c b type (subst (λ (v : Event). Submits v (numbered d).sender) q (numbered d).asks))

  but_all : (e : Event) → e ≡ sends c b → {ps qs : List Addressed} → All2 (ButCopies (table_in n m) e y.event) ps qs → All2 (ButExceptions (table_in n m) e y.event) ps qs
  but_all e i {ps} {qs} p =
      subst (λ (v : Event). All2 (ButExceptions (table_in n m) v y.event) ps qs) (sym i)
      (but_exceptions (table_in n m) c b type y.event (subst (λ (v : Event). All2 (ButCopies (table_in n m) v y.event) ps qs) i p))

  pub one_exception : OneException n m w x y xs ys
  one_exception =
      let o = one_changed n m w hm hw same x y lx ly a rest lxs lys in
      record {
        packets = but_all x.event q o.packets;
        stored = (later_same o.later).0;
        later = (later_same o.later).1;
      }
