-- One packet of a history has other opaque bytes: the copies of that packet differ, later the assignments of the job that it made, and
-- nothing else. Assumes nothing.
use Prim.Native.Nat.{ℕ, suc}
use mathlib.Core.Path.{◌≡◌, refl, ap, ap₂, sym, ◌∙◌, subst}
use mathlib.Core.Bool.{Bool, true, false, cond}
use mathlib.Core.List.{List, [], ◌∷◌, ◌++◌, map}
use native.Mathlib.Decide.{ℕ_discrete}
use lib.ListN.{get_or}
use Rattle.octets.specs.Bytes.{Bytes}
use Rattle.handle.specs.Handle.{handle}
use Rattle.packet.specs.Packet.{got}
use Rattle.lists.specs.Lists.{fit}
use Rattle.lists.proofs.Lists.{length_fit}
use Rattle.lists.proofs.Cases.{All, All2, all_more}
use Rattle.lists.proofs.Rows.{never}
use Rattle.server.specs.Table.{Table, job_at, function_at}
use Rattle.server.specs.Requests.{Event}
use Rattle.server.specs.Events.{Send, plain, copy, assign, Decision}
use Rattle.server.specs.Server.{Server, render, decided, next}
use Rattle.server.specs.Call.{server_in}
use Rattle.server_laws.proofs.Packets.{Sends, why_sent}
use Rattle.server_laws.proofs.Serials.{Creation, nothing, one, creation, creates_grown}
use Rattle.server_laws.proofs.Lengths.{hub_kept}
use Rattle.server_calls.specs.History.{Call, Memory, calls, leaves}
use Rattle.server_calls.proofs.Follows.{Running}
use Rattle.server_calls.proofs.Histories.{LongOutputs}
use Rattle.server_blind.proofs.Alike.{Alike, alike_same, decided_alike}
use Rattle.server_blind.proofs.Workloads.{Apart, near_at, next_apart}
use Rattle.server_blind.proofs.Lone.{lone_none}
use Rattle.server_blind.proofs.Stored.{created_apart}
use Rattle.server_blind.proofs.Outputs.{Both}
use Rattle.server_blind.proofs.LoneCalls.{SameEvents, same_alike}
use Rattle.demands.specs.Messages.{message_of}
use Rattle.demands.specs.Handles.{is_made}
use Rattle.demands.specs.Hub.{Hub, Long, call_on, kept, after_calls, results_of, table_in, server_of}
use Rattle.demands.specs.Blind.{Copied, echoed, forwarded, ButCopies, copies, ButWorkload, assigned, Packets, Later, made_none, made_one, One}
use Rattle.demands.specs.Blind as B
use Rattle.demands.proofs.Hubs.{hub_runs, call_hub, call_next}
use Rattle.demands.proofs.ReadsBack.{Reads, all_read}
use Rattle.demands.proofs.Told.{sent_as, same_message}
use Rattle.demands.proofs.Gone.{made_creates, newest_made}
use Rattle.demands.proofs.Agreeing.{call_packets, calls_agree, histories_agree, tables_next}

-- ---- which packets are copies

data Fair (t : Table) (e : Event) : Send → Type 0 where
  a_plain : {to kind : ℕ} {as' : List Bytes} → Fair t e (plain to kind as')
  an_assignment : {uniq : Bool} {to p : ℕ} → Fair t e (assign uniq to p)
  a_copy : {to kind : ℕ} → Copied t e to kind → Fair t e (copy to kind)

-- each packet, by the reason why it is sent
fair : {t : Table} {last : ℕ} {e : Event} {x : Send} → Sends t last e x → Fair t e x
fair (Sends.an_error c b n h) = a_plain
fair (Sends.no_job_lem c b uniq q r) = a_plain
fair (Sends.the_job c b uniq q p r) = an_assignment
fair (Sends.handle_joined c b priority background f u size q p r) = a_plain
fair (Sends.handle_made c b priority background f u size q l m) = a_plain
fair (Sends.a_copy c b how kind h n d q p r l m w) = a_copy (forwarded c b how kind h n d q p r l m w)
fair (Sends.a_failure c b how kind h n d q p r l m w) = a_plain
fair (Sends.a_status c b h q o r) = a_plain
fair (Sends.an_option_lem c b name q r) = a_plain
fair (Sends.an_echo c b q) = a_copy (echoed c b q)
fair (Sends.a_noop l) = a_plain

-- ---- the event itself

module _ {e f : Event} (a : Alike e f) (s : Server) where
  but_copies : {xs : List Send} → All (Fair s.table e) xs → All (Reads e s) xs → All (Reads f s) xs → All2 (ButCopies s.table e f) (map (sent_as e s) xs) (map (sent_as f s) xs)
  unfolding render message_of
  but_copies All.none All.none All.none = All2.none
  but_copies (All.more a_plain ps) (All.more r rs) (All.more q qs) = All2.more (B.ButCopies.equal refl) (but_copies ps rs qs)
  but_copies (All.more an_assignment ps) (All.more r rs) (All.more q qs) = All2.more (B.ButCopies.equal refl) (but_copies ps rs qs)
  but_copies (All.more (a_copy {to} {kind} x) ps) (All.more r rs) (All.more q qs) =
      All2.more (copies to kind x (same_message e s (copy to kind) r) (same_message f s (copy to kind) q)) (but_copies ps rs qs)

  pub itself_copies : {n : ℕ} → Running n s → All2 (ButCopies s.table e f) (map (sent_as e s) (decided e s).packets) (map (sent_as f s) (decided f s).packets)
  itself_copies {n} h =
      let d = decided_alike a s s refl in
      let r : All (Reads f s) (decided e s).packets = subst (λ (x : Decision). All (Reads f s) x.packets) (sym d) (all_read n f s h) in
      rw (← d) (but_copies (all_more (λ x q. fair q) (why_sent e s)) (all_read n e s h) r)

-- ---- events after one that made a job

-- what an assignment of the job with serial k says
assigned_says : (e : Event) {k : ℕ} (z : Bool) (to p : ℕ) (w : Bytes) (s : Server) → (job_at s.table p).row.serial ≡ k → fit (job_at s.table p).row.size (get_or s.workloads p []) ≡ w
    → message_of e s (assign z to p)
    ≡ record { to = to; says = got (cond z 31 11) (handle s.table.hub k ∷ (function_at s.table (job_at s.table p).row.function).name ∷ (cond z ((job_at s.table p).unique ∷ []) [] ++ (w ∷ []))) }
unfolding message_of
assigned_says e true to p w s q i = rw (q, i)
assigned_says e false to p w s q i = rw (q, i)

module _ (k : ℕ) (e : Event) (s r : Server) (a : Apart k s r) where
  but_assigned : (x : Send) → Reads e s x → Reads e r x → ButWorkload (handle s.table.hub k) (sent_as e s x) (sent_as e r x)
  unfolding render
  but_assigned (plain to kind as') i o = B.ButWorkload.equal refl
  but_assigned (copy to kind) i o = B.ButWorkload.equal refl
  but_assigned (assign uniq to p) i o = by uniq i o (ℕ_discrete (job_at s.table p).row.serial k)
    where
      by : (z : Bool) → Reads e s (assign z to p) → Reads e r (assign z to p) → Dec ((job_at s.table p).row.serial ≡ k) → ButWorkload (handle s.table.hub k) (sent_as e s (assign z to p)) (sent_as e r (assign z to p))
      by z i o (no m) = B.ButWorkload.equal (rw (near_at a.workloads p m, a.table))
      by z i o (yes q) =
          let j = job_at s.table p in
          let n = j.row.size in
          let w = fit n (get_or s.workloads p []) in
          let v = fit n (get_or r.workloads p []) in
          assigned to z (function_at s.table j.row.function).name (cond z (j.unique ∷ []) []) w v (length_fit n _ ∙ sym (length_fit n _))
          (same_message e s (assign z to p) i ∙ assigned_says e z to p w s q refl) (same_message e r (assign z to p) o ∙ rw a.table (assigned_says e z to p _ r (rw (← a.table) q) refl))

  all_assigned : (xs : List Send) → All (Reads e s) xs → All (Reads e r) xs → All2 (ButWorkload (handle s.table.hub k)) (map (sent_as e s) xs) (map (sent_as e r) xs)
  all_assigned [] All.none All.none = All2.none
  all_assigned (x ∷ xs) (All.more i is) (All.more o os) = All2.more (but_assigned x i o) (all_assigned xs is os)

  apart_packets : {n : ℕ} → Running n s → Running n r → All2 (ButWorkload (handle s.table.hub k)) (map (sent_as e s) (decided e s).packets) (map (sent_as e r) (decided e r).packets)
  apart_packets {n} h g =
      let d = decided_alike (alike_same e) s r a.table in
      let o : All (Reads e r) (decided e s).packets = subst (λ (x : Decision). All (Reads e r) x.packets) (sym d) (all_read n e r g) in
      rw (← d) (all_assigned (decided e s).packets (all_read n e s h) o)

-- ---- over calls

all_same : {A : Type 0} (xs : List A) → All2 (λ (a b : A). a ≡ b) xs xs
all_same [] = All2.none
all_same (x ∷ xs) = All2.more refl (all_same xs)

all_equal : {A : Type 0} (xs ys : List A) → xs ≡ ys → All2 (λ (a b : A). a ≡ b) xs ys
all_equal xs ys q = subst (All2 (λ a b. a ≡ b) xs) q (all_same xs)

module _ (n : ℕ) where
  -- memory that holds one server
  same_calls : {xs ys : List Call} → SameEvents xs ys → LongOutputs n xs → LongOutputs n ys → (u v : Memory) → Hub n u → Hub n v → server_of n u ≡ server_of n v
      → Both (Packets (λ a b. a ≡ b)) xs ys (results_of n xs u) (results_of n ys v)
  unfolding calls
  same_calls All2.none All.none All.none u v hu hv q = Both.none
  same_calls (All2.more {a = x} {b = y} e rest) (All.more lx ls) (All.more ly ms) u v hu hv q =
      Both.more
      (all_equal _ _ (call_packets n u hu x lx ∙ ap₂ (λ (f : Event) (s : Server). map (sent_as f s) (decided f s).packets) e q ∙ sym (call_packets n v hv y ly)))
      (same_calls rest ls ms (kept (call_on n u x)) (kept (call_on n v y)) (call_hub n u hu x lx) (call_hub n v hv y ly) (call_next n u hu x lx ∙ ap₂ next e q ∙ sym (call_next n v hv y ly)))

  -- memory that holds two servers that differ in the workload of the job with serial k
  apart_next : (k : ℕ) (u v : Memory) → Hub n u → Hub n v → Apart k (server_of n u) (server_of n v) → (x y : Call) → Long n x → Long n y → x.event ≡ y.event
      → Apart k (server_of n (kept (call_on n u x))) (server_of n (kept (call_on n v y)))
  apart_next k u v hu hv a x y lx ly e = rw (call_next n u hu x lx, call_next n v hv y ly, ← e) (next_apart k x.event (server_of n u) (server_of n v) a)

  hub_next : (u : Memory) → Hub n u → (x : Call) → Long n x → (server_of n (kept (call_on n u x))).table.hub ≡ (server_of n u).table.hub
  hub_next u hu x lx = ap (λ (s : Server). s.table.hub) (call_next n u hu x lx) ∙ hub_kept x.event (server_of n u)

  apart_calls : (name : Bytes) (k : ℕ) {xs ys : List Call} → SameEvents xs ys → LongOutputs n xs → LongOutputs n ys → (u v : Memory) → Hub n u → Hub n v → (server_of n u).table.hub ≡ name → Apart k (server_of n u) (server_of n v)
      → Both (Packets (ButWorkload (handle name k))) xs ys (results_of n xs u) (results_of n ys v) × Apart k (server_of n (after_calls n xs u)) (server_of n (after_calls n ys v))
  unfolding calls leaves
  apart_calls name k All2.none All.none All.none u v hu hv is a = (Both.none, a)
  apart_calls name k (All2.more {a = x} {b = y} e rest) (All.more lx ls) (All.more ly ms) u v hu hv is a =
      let (b, c) = apart_calls name k rest ls ms (kept (call_on n u x)) (kept (call_on n v y)) (call_hub n u hu x lx) (call_hub n v hv y ly) (hub_next u hu x lx ∙ is) (apart_next k u v hu hv a x y lx ly e) in
      let p : All2 (ButWorkload (handle name k)) (map (sent_as x.event (server_of n u)) (decided x.event (server_of n u)).packets) (map (sent_as x.event (server_of n v)) (decided x.event (server_of n v)).packets)
      = subst (λ (hub : Bytes). All2 (ButWorkload (handle hub k)) (map (sent_as x.event (server_of n u)) (decided x.event (server_of n u)).packets) (map (sent_as x.event (server_of n v)) (decided x.event (server_of n v)).packets)) is
      (apart_packets k x.event (server_of n u) (server_of n v) a (hub_runs n u hu) (hub_runs n v hv)) in
      let q : Packets (ButWorkload (handle name k)) x y (call_on n u x) (call_on n v y) = rw (call_packets n u hu x lx, call_packets n v hv y ly, ← e) p in
      (Both.more q b, c)

-- ---- one changed call

module _ (n : ℕ) (m w : Memory) (hm : Hub n m) (hw : Hub n w) (same : server_of n m ≡ server_of n w) (x y : Call) (lx : Long n x) (ly : Long n y) (a : Alike x.event y.event)
    {xs ys : List Call} (rest : SameEvents xs ys) (lxs : LongOutputs n xs) (lys : LongOutputs n ys) where
  abbrev u : Memory
  u = kept (call_on n m x)

  abbrev v : Memory
  v = kept (call_on n w y)

  hu : Hub n u
  hu = call_hub n m hm x lx

  hv : Hub n v
  hv = call_hub n w hw y ly

  server_v : server_of n v ≡ next y.event (server_of n m)
  server_v = call_next n w hw y ly ∙ ap (next y.event) (sym same)

  same_table : table_in n m ≡ table_in n w
  unfolding server_in
  same_table = ap (λ (s : Server). s.table) same

  later_by : Creation (server_of n m) x.event → Later n m u v xs ys
  unfolding server_in
  later_by (nothing k z) =
      let q : server_of n u ≡ server_of n v = call_next n m hm x lx ∙ lone_none a (server_of n m) z ∙ sym server_v in
      made_none (λ h. never _ (λ g. let (i, p, c) = made_creates x.event (server_of n m) h (subst (λ (s : Server). is_made h (table_in n m) s.table ≡ true) (call_next n m hm x lx) g) in z i c))
      q (same_calls n rest lxs lys u v hu hv q)
  later_by (one c i k d f) =
      let s = server_of n m in
      let l : ℕ = suc s.table.last in
      let ap' : Apart l (server_of n u) (server_of n v) = rw (call_next n m hm x lx, server_v) (created_apart a s l d) in
      let (b, r) = apart_calls n s.table.hub l rest lxs lys u v hu hv (hub_next n m hm x lx) ap' in
      made_one l (subst (λ (z : Server). is_made (handle s.table.hub l) (table_in n m) z.table ≡ true) (sym (call_next n m hm x lx)) (newest_made n x.event s (hub_runs n m hm) k.room (creates_grown d)))
      b (λ p z. near_at r.workloads p z)

  pub one_changed : One n m w x y xs ys
  unfolding server_in
  one_changed =
      record {
        itself = calls_agree n m w hm hw same_table x y lx ly a;
        packets = rw (call_packets n m hm x lx, call_packets n w hw y ly, ← same) (itself_copies a (server_of n m) (hub_runs n m hm));
        others = histories_agree n (same_alike rest) lxs lys u v hu hv (tables_next n m w hm hw same_table x y lx ly a);
        later = later_by (creation (server_of n m) x.event);
      }
