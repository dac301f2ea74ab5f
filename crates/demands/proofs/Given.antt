-- Every handle that a packet gives is that of an unfinished job, or of the job that the event makes. Assumes nothing.
use Prim.Native.Nat.{ℕ, suc, ◌<◌}
use mathlib.Core.Path.{◌≡◌, refl, sym}
use mathlib.Core.Bool.{Bool, true, false, ◌||◌}
use mathlib.Core.List.{List, [], ◌∷◌, map}
use borrow.Author.Tests.{eqb-true}
use lib.ListN.{length}
use lib.Dec.{eqb}
use Rattle.octets.specs.Bytes.{Bytes}
use Rattle.octets.proofs.Strings.{and_left, and_right, and_both, same_is, same_refl}
use Rattle.handle.specs.Handle.{handle}
use Rattle.packet.specs.Layout.{is_own, request_shape}
use Rattle.packet.specs.Packet.{requests}
use Rattle.packet_laws.proofs.Packets.{read_got}
use Rattle.lists.specs.Lists.{any}
use Rattle.lists.proofs.Cases.{All, all_more}
use Rattle.lists.proofs.Rows.{clash, never, any_at, any_where}
use Rattle.server.specs.Table.{Table, no_job, job_at, live, has_handle}
use Rattle.server.specs.Requests.{Event, Work, request_in, work}
use Rattle.server.specs.Events.{Send, plain, copy, assign, created}
use Rattle.server.specs.Server.{Server, decided, next}
use Rattle.server_laws.proofs.Packets.{Sends, why_sent}
use Rattle.server_laws.proofs.Going.{best_found, grabbed_live, joined_found, joined_inside}
use Rattle.demands.specs.Messages.{message_of, messages_of}
use Rattle.demands.specs.Handles.{gives_handle, reading_gives, given, stands}
use Rattle.demands.proofs.Arguments.{work_read}

-- ---- jobs by their handle

-- where the job with this handle stands
pub record At (h : Bytes) (t : Table) : Type 0 where
  pub place : ℕ
  pub inside : place < length t.jobs
  pub live' : live (job_at t place).row ≡ true
  pub is : h ≡ handle t.hub (job_at t place).row.serial

pub stands_at : (h : Bytes) (t : Table) → stands h t ≡ true → At h t
unfolding stands has_handle
stands_at h t e =
    let (p, i, q) = any_where (λ j. has_handle t.hub h j.row) t.jobs no_job e in
    record { place = p; inside = i; live' = and_left (live (job_at t p).row) _ q; is = sym (same_is _ _ (and_right (live (job_at t p).row) _ q)) }

pub at_stands : (h : Bytes) (t : Table) → At h t → stands h t ≡ true
unfolding stands has_handle
at_stands h t a =
    any_at (λ j. has_handle t.hub h j.row) t.jobs a.place no_job a.inside
    (and_both (live (job_at t a.place).row) _ a.live' (rw a.is (same_refl _)))

-- ---- the types that give a handle are no request's

not_served_lem : (kind : ℕ) → gives_handle kind ≡ true → is_own (request_shape kind) ≡ false
unfolding request_shape
not_served_lem kind = go (eqb kind 8) refl (eqb kind 11) refl (eqb kind 31) refl
  where
    go : (x : Bool) → eqb kind 8 ≡ x → (y : Bool) → eqb kind 11 ≡ y → (z : Bool) → eqb kind 31 ≡ z → x || (y || z) ≡ true → is_own (request_shape kind) ≡ false
    go true e y f z g r = rw (eqb-true kind 8 e)
    go false e true f z g r = rw (eqb-true kind 11 f)
    go false e false f true g r = rw (eqb-true kind 31 g)
    go false e false f false g r = clash r refl

work_gives_none : (b : Bytes) (how : Work) (kind : ℕ) (h n d : Bytes) → request_in b ≡ work how kind h n d → gives_handle kind ≡ false
work_gives_none b how kind h n d q =
    let r = work_read b how kind h n d q in
    never (gives_handle kind) (λ g. clash (read_got requests b kind r.args r.reads).own (not_served_lem kind g))

-- ---- each packet that an event sends

-- the handle is that of a job that stands in the table before the event, or of the job with the next serial, which is m then
pub data Known (s : Server) (m : ℕ) (h : Bytes) : Type 0 where
  standing : At h s.table → Known s m h
  newest : s.table.last < 4294967295 → m ≡ suc s.table.last → h ≡ handle s.table.hub (suc s.table.last) → Known s m h

module _ (e : Event) (s : Server) where
  -- whatever handle it gives
  abbrev Gives : ℕ → Send → Type 0
  Gives m x = (h : Bytes) → reading_gives h (message_of e s x).says ≡ true → Known s m h

  gives_plain : (m to kind : ℕ) (args : List Bytes) → gives_handle kind ≡ false → Gives m (plain to kind args)
  unfolding message_of
  gives_plain m to kind args q h g = clash (and_left (gives_handle kind) _ g) q

  gives_copy : (m to kind : ℕ) → gives_handle kind ≡ false → Gives m (copy to kind)
  unfolding message_of
  gives_copy m to kind q h g = clash (and_left (gives_handle kind) _ g) q

  gives_joined : (m to p : ℕ) → p < length s.table.jobs → live (job_at s.table p).row ≡ true → Gives m (created s.table.hub to (job_at s.table p).row.serial)
  unfolding message_of
  gives_joined m to p i l h g = standing (record { place = p; inside = i; live' = l; is = sym (same_is _ _ g) })

  gives_made : (m to : ℕ) → s.table.last < 4294967295 → m ≡ suc s.table.last → Gives m (created s.table.hub to (suc s.table.last))
  unfolding message_of
  gives_made m to l z h g = newest l z (sym (same_is _ _ g))

  gives_assigned : (m : ℕ) (uniq : Bool) (to p : ℕ) → p < length s.table.jobs → live (job_at s.table p).row ≡ true → Gives m (assign uniq to p)
  unfolding message_of
  gives_assigned m true to p i l h g = standing (record { place = p; inside = i; live' = l; is = sym (same_is _ _ g) })
  gives_assigned m false to p i l h g = standing (record { place = p; inside = i; live' = l; is = sym (same_is _ _ g) })

-- each packet, by the reason why it is sent
gives_sent : (s : Server) {m : ℕ} {e : Event} {x : Send} → Sends s.table m e x → Gives e s m x
gives_sent s (Sends.an_error c b n h) = gives_plain _ s _ c 19 _ refl
gives_sent s (Sends.no_job_lem c b uniq q r) = gives_plain _ s _ c 10 [] refl
gives_sent s (Sends.the_job c b uniq q p r) = gives_assigned _ s _ uniq c p (best_found s.table c p r).0 (grabbed_live s.table c p r)
gives_sent s (Sends.handle_joined c b priority background f u size q p r) = gives_joined _ s _ c p (joined_inside s.table f u p r) (joined_found s.table f u p r)
gives_sent s (Sends.handle_made c b priority background f u size q l z) = gives_made _ s _ c l z
gives_sent s (Sends.a_copy c b how kind j x y q p r l i w) = gives_copy _ s _ l kind (work_gives_none b how kind j x y q)
gives_sent s (Sends.a_failure c b how kind j x y q p r l i w) = gives_plain _ s _ l 14 _ refl
gives_sent s (Sends.a_status c b h q o r) = gives_plain _ s _ c 20 _ refl
gives_sent s (Sends.an_option_lem c b name q r) = gives_plain _ s _ c 27 _ refl
gives_sent s (Sends.an_echo c b q) = gives_copy _ s _ c 17 refl
gives_sent s (Sends.a_noop l) = gives_plain _ s _ l 6 [] refl

any_gives : (e : Event) (s : Server) (m : ℕ) (h : Bytes) (xs : List Send) → All (Gives e s m) xs → any (λ y. reading_gives h y.says) (map (message_of e s) xs) ≡ true → Known s m h
any_gives e s m h [] All.none g = clash g refl
any_gives e s m h (x ∷ xs) (All.more p ps) g = go (reading_gives h (message_of e s x).says) refl g (any_gives e s m h xs ps)
  where
    go : (b : Bool) → reading_gives h (message_of e s x).says ≡ b → b || any (λ y. reading_gives h y.says) (map (message_of e s) xs) ≡ true
        → (any (λ y. reading_gives h y.says) (map (message_of e s) xs) ≡ true → Known s m h) → Known s m h
    go true q r f = p h q
    go false q r f = f r

-- whatever handle is given, it is that of an unfinished job or of the job that is made now
pub given_known : (e : Event) (s : Server) (h : Bytes) → given h (messages_of e s) ≡ true → Known s (next e s).table.last h
unfolding given messages_of next
given_known e s h g = any_gives e s _ h (decided e s).packets (all_more (λ x q. gives_sent s q) (why_sent e s)) g
