-- Who may see the opaque bytes of an event's own packet: an echo's sender, and the listeners of the job of which a worker packet
-- tells, of an exception those that set the option. Every other packet that the event sends is the same whatever those bytes are.
-- Assumes nothing.
use Prim.Native.Nat.{ℕ}
use mathlib.Core.Path.{◌≡◌, refl, sym, subst}
use mathlib.Core.Bool.{Bool, true}
use Rattle.std.specs.Prelude.{Some}
use mathlib.Core.List.{List, map}
use Rattle.octets.specs.Bytes.{Bytes}
use Rattle.sets.specs.Sets.{has}
use Rattle.server.specs.Table.{Table, job_at}
use Rattle.server.specs.Requests.{Event, sends, Work, Request, echo, work, request_in}
use Rattle.server.specs.Events.{Send, plain, copy, assign, hears, held_job_of}
use Rattle.server.specs.Server.{Server, Sent, render, answer}
use Rattle.lists.proofs.Cases.{All, All2, all_more}
use Rattle.server_laws.proofs.Packets.{Sends, why_sent}
use Rattle.server_blind.proofs.Alike.{Alike, Like, decided_alike, like_render}

-- connection l listens to the job with this handle, which connection c holds
pub record Listens (c : ℕ) (t : Table) (h : Bytes) (l : ℕ) : Type 0 where
  pub place : ℕ
  pub held : held_job_of t c h ≡ Some place
  pub listens : has (job_at t place).row.listeners l ≡ true

-- connection l may see the opaque bytes of what connection c asks: its own echo, and what is told of a job to which it listens; 02: "a
-- changed exception may show only in the copies that carry it"
pub data Sees (c : ℕ) (t : Table) : Request → ℕ → Type 0 where
  sees_echo : Sees c t echo c
  sees_work : {how : Work} {kind : ℕ} {h n d : Bytes} {l : ℕ} → Listens c t h l → hears how t l ≡ true → Sees c t (work how kind h n d) l

-- the same of an event: only a packet has opaque bytes
pub data MaySee (t : Table) : Event → ℕ → Type 0 where
  sees : (c : ℕ) (b : Bytes) {l : ℕ} → Sees c t (request_in b) l → MaySee t (sends c b) l

-- only a copy carries this packet's opaque bytes, and it goes to one who may see them
data Carries (P : ℕ → Type 0) : Send → Type 0 where
  a_plain : {to kind : ℕ} {as' : List Bytes} → Carries P (plain to kind as')
  an_assignment : {uniq : Bool} {to p : ℕ} → Carries P (assign uniq to p)
  a_copy : {to kind : ℕ} → P to → Carries P (copy to kind)

-- ---- what the server sends

-- each packet, by the reason why it is sent
carries : {t : Table} {last : ℕ} {e : Event} {x : Send} → Sends t last e x → Carries (MaySee t e) x
carries (Sends.an_error c b n h) = a_plain
carries (Sends.no_job_lem c b uniq q r) = a_plain
carries (Sends.the_job c b uniq q p r) = an_assignment
carries (Sends.handle_joined c b priority background f u size q p r) = a_plain
carries (Sends.handle_made c b priority background f u size q l m) = a_plain
carries {t} (Sends.a_copy c b how kind h n d q p r l m w) = a_copy (sees c b (subst (λ (a : Request). Sees c t a l) (sym q) (sees_work (record { place = p; held = r; listens = m }) w)))
carries (Sends.a_failure c b how kind h n d q p r l m w) = a_plain
carries (Sends.a_status c b h q o r) = a_plain
carries (Sends.an_option_lem c b name q r) = a_plain
carries {t} (Sends.an_echo c b q) = a_copy (sees c b (subst (λ (a : Request). Sees c t a c) (sym q) sees_echo))
carries (Sends.a_noop l) = a_plain

-- ---- the answer to the event itself

-- the same packet; or packets to one of these connections, that differ in opaque bytes alone
pub data ButTo (P : ℕ → Type 0) (p q : Sent) : Type 0 where
  equal : p ≡ q → ButTo P p q
  differs : P p.to → Like p q → ButTo P p q

module _ {e f : Event} (a : Alike e f) (s : Server) {P : ℕ → Type 0} where
  renders_to : {xs : List Send} → All (Carries P) xs → All2 (ButTo P) (map (render e s) xs) (map (render f s) xs)
  unfolding render
  renders_to All.none = All2.none
  renders_to (All.more a_plain ps) = All2.more (equal refl) (renders_to ps)
  renders_to (All.more an_assignment ps) = All2.more (equal refl) (renders_to ps)
  renders_to (All.more (a_copy {to} {kind} x) ps) = All2.more (differs x (like_render a s s refl (copy to kind))) (renders_to ps)

-- fewer connections may be named
pub but_to_more : {P Q : ℕ → Type 0} → ((l : ℕ) → P l → Q l) → {ps qs : List Sent} → All2 (ButTo P) ps qs → All2 (ButTo Q) ps qs
but_to_more f All2.none = All2.none
but_to_more f (All2.more (equal e) rest) = All2.more (equal e) (but_to_more f rest)
but_to_more f (All2.more (differs x l) rest) = All2.more (differs (f _ x) l) (but_to_more f rest)

-- one event's opaque bytes alone are other ones: only packets to those who may see them differ, and only in their opaque part
pub answer_to_lem : {e f : Event} → Alike e f → (s : Server) → All2 (ButTo (MaySee s.table e)) (answer e s).sent (answer f s).sent
unfolding answer
answer_to_lem {e} {f} a s = rw (← (decided_alike a s s refl)) (renders_to a s (all_more (λ x p. carries p) (why_sent e s)))
