-- A handle whose job is gone is nobody's for ever: no place has it, no packet gives it, and a worker packet that names it is refused
-- by 14. And a new job's handle was given by no packet before. From any running server. Assumes nothing.
use Prim.Native.Nat.{ℕ, suc, ◌≤◌, ◌<◌, ◌^◌}
use mathlib.Core.Path.{◌≡◌, refl, ap, sym, ◌∙◌, subst}
use mathlib.Core.Bool.{Bool, true, false, not, ◌||◌}
use Rattle.std.specs.Prelude.{Option, Some, None}
use mathlib.Core.List.{List, [], ◌∷◌, map}
use native.Mathlib.Nat.{le_trans}
use native.Mathlib.Omega.{arith}
use borrow.Author.Tests.{ne_eqb, eqb-true, eqb-false, leb-true, ltb-true, ltb-false, not-true}
use lib.ListN.{length, get_or, get_or-eq_default}
use lib.Dec.{eqb, leb, ltb}
use Rattle.octets.specs.Bytes.{Bytes, same, number_at}
use Rattle.octets.proofs.Strings.{and_left, and_right, and_both, same_is, same_refl}
use Rattle.handle.specs.Handle.{handle}
use Rattle.handle.proofs.Handles.{handle_one_to_one}
use Rattle.packet.specs.Packet.{Reading, refused, got, read, requests}
use Rattle.packet_laws.proofs.Packets.{read_got}
use Rattle.lists.specs.Lists.{any}
use Rattle.lists.proofs.Searches.{found}
use Rattle.lists.proofs.Rows.{clash, never, or_left, or_right, all_at}
use Rattle.server.specs.declared.Connection.{Connection}
use Rattle.server.specs.Table.{Table, closed, no_job, connection_at, job_at, live, held_by, has_handle, job_of}
use Rattle.server.specs.Requests.{Event, sends, Work, tells, reports, ends, throws, work, get_status, requested, from_reading, request_in}
use Rattle.server.specs.Events.{plain, refuse, holds_handle, work_at, status_of, status_at, served, is_connection, only_if_open, held_job_of}
use Rattle.server.specs.Rules.{is_open}
use Rattle.server.specs.Server.{Server, decided, answer, next, after}
use Rattle.server_laws.proofs.Serials.{Creates, Creation, nothing, one, creation, Numbered, numbered, grown_creates, last_kept, last_rises}
use Rattle.server_laws.proofs.Lengths.{hub_kept, hub_after}
use Rattle.server_laws.proofs.AtRest.{settle_nothing}
use Rattle.server_laws.proofs.Obeyed.{obeyed}
use Rattle.server_calls.proofs.Follows.{Running, running_next}
use Rattle.demands.specs.Messages.{message_of, messages_of}
use Rattle.demands.specs.Handles.{given, stands, is_made, is_work, is_ending, reading_tells, reading_asks, unknown_job, first_is, reading_gives}
use Rattle.demands.proofs.Unmasked.{request_read}
use Rattle.packet.specs.Layout.{request_shape}
use Rattle.server_laws.proofs.Fates.{ends_job}
use Rattle.demands.proofs.Numbers.{Asks, asks_at, throwing}
use Rattle.demands.proofs.Arguments.{work_read}
use Rattle.demands.proofs.Given.{At, stands_at, at_stands, Known, standing, newest, given_known}

-- ---- handles that were given out

-- the handle is that of a serial that is used up
pub record Used (h : Bytes) (t : Table) : Type 0 where
  pub serial : ℕ
  pub is : h ≡ handle t.hub serial
  pub some : 1 ≤ serial
  pub past : serial ≤ t.last

-- the last serial of a running server fits into four bytes
pub last_fits : (n : ℕ) (s : Server) → Running n s → s.table.last < 2 ^ 32
last_fits n s h = ltb-true s.table.last 4294967296 (obeyed s.table h.rules).sound.small

-- the serial of an unfinished job lies from 1 to the last
pub serial_past : (n : ℕ) (s : Server) → Running n s → (p : ℕ) → p < length s.table.jobs → (job_at s.table p).row.serial ≤ s.table.last
serial_past n s r p i =
    let t = s.table in
    leb-true _ t.last (all_at (λ j. leb j.row.serial t.last) t.jobs p no_job (obeyed t r.rules).sound.below i)

at_used : (n : ℕ) (s : Server) → Running n s → (h : Bytes) → At h s.table → Used h s.table
at_used n s r h a =
    let z : (job_at s.table a.place).row.serial ≡ 0 → ⊥ = eqb-false (job_at s.table a.place).row.serial 0 (not-true _ a.live') in
    record { serial = (job_at s.table a.place).row.serial; is = a.is; some = omega arith; past = serial_past n s r a.place a.inside }

pub stands_used : (n : ℕ) (s : Server) → Running n s → (h : Bytes) → stands h s.table ≡ true → Used h s.table
stands_used n s r h e = at_used n s r h (stands_at h s.table e)

pub used_after : (es : List Event) (s : Server) (h : Bytes) → Used h s.table → Used h (after s es).table
used_after es s h u = record { serial = u.serial; is = u.is ∙ ap (λ (name : Bytes). handle name u.serial) (sym (hub_after es s)); some = u.some; past = le_trans u.past (last_rises es s) }

pub used_next : (e : Event) (s : Server) (h : Bytes) → Used h s.table → Used h (next e s).table
used_next e s h u = record { serial = u.serial; is = u.is ∙ ap (λ (name : Bytes). handle name u.serial) (sym (hub_kept e s)); some = u.some; past = le_trans u.past (last_kept s e) }

-- what was given is used up
pub given_used : (n : ℕ) (e : Event) (s : Server) → Running n s → (h : Bytes) → given h (messages_of e s) ≡ true → Used h (next e s).table
given_used n e s r h g = by (given_known e s h g)
  where
    by : Known s (next e s).table.last h → Used h (next e s).table
    by (standing a) = used_next e s h (at_used n s r h a)
    by (newest room last q) = record { serial = suc s.table.last; is = q ∙ ap (λ (name : Bytes). handle name (suc s.table.last)) (sym (hub_kept e s)); some = omega arith; past = omega arith }

-- ---- a job that is made

pub inside_live : (t : Table) (p : ℕ) → live (job_at t p).row ≡ true → p < length t.jobs
inside_live t p l = by (ltb p (length t.jobs)) refl
  where
    by : (b : Bool) → ltb p (length t.jobs) ≡ b → p < length t.jobs
    by true e = ltb-true p (length t.jobs) e
    by false e = let q : job_at t p ≡ no_job = get_or-eq_default t.jobs no_job (ltb-false p (length t.jobs) e) in clash (rw q at l) refl

-- the job that stands after the event, with its handle as the hub had it before
pub hub_before : (e : Event) (s : Server) (h : Bytes) (a : At h (next e s).table) → h ≡ handle s.table.hub (job_at (next e s).table a.place).row.serial
hub_before e s h a = a.is ∙ ap (λ (name : Bytes). handle name (job_at (next e s).table a.place).row.serial) (hub_kept e s)

-- a job stands after the event that stood not before it: the event creates it
pub made_creates : (e : Event) (s : Server) (h : Bytes) → is_made h s.table (next e s).table ≡ true → (k : ℕ) × (h ≡ handle s.table.hub k) × Creates s e k
made_creates e s h m =
    let a = stands_at h (next e s).table (and_left (stands h (next e s).table) _ m) in
    let k = (job_at (next e s).table a.place).row.serial in
    let absent : (job_at s.table a.place).row.serial ≡ k → ⊥ = λ q. clash (at_stands h s.table (before a q)) (not-true _ (and_right (stands h (next e s).table) _ m)) in
    (k, hub_before e s h a, record { place = a.place; is = refl; some = eqb-false k 0 (not-true _ a.live'); new = absent })
  where
    before : (a : At h (next e s).table) → (job_at s.table a.place).row.serial ≡ (job_at (next e s).table a.place).row.serial → At h s.table
    before a q =
        let i : live (job_at s.table a.place).row ≡ true = ap (λ (k : ℕ). not (eqb k 0)) q ∙ a.live' in
        record { place = a.place; inside = inside_live s.table a.place i; live' = i; is = hub_before e s h a ∙ ap (handle s.table.hub) (sym q) }

-- so it has the next serial
pub made_newest : (e : Event) (s : Server) (h : Bytes) → is_made h s.table (next e s).table ≡ true → (h ≡ handle s.table.hub (suc s.table.last)) × (suc s.table.last < 2 ^ 32)
made_newest e s h m =
    let (k, q, c) = made_creates e s h m in
    let x : Numbered s e k = numbered c in
    (q ∙ ap (handle s.table.hub) x.is, omega (arith, x.is, x.room))

-- and the event gives its handle out: JOB_CREATED is its first packet
pub made_given : (e : Event) (s : Server) (h : Bytes) → is_made h s.table (next e s).table ≡ true → given h (messages_of e s) ≡ true
unfolding given messages_of message_of
made_given e s h m =
    let (k, q, c) = made_creates e s h m in
    by k q c (creation s e)
  where
    by : (k : ℕ) → h ≡ handle s.table.hub k → Creates s e k → Creation s e → any (λ x. reading_gives h x.says) (map (message_of e s) (decided e s).packets) ≡ true
    by k q c (nothing w z) = absurd (z k c)
    by k q c (one d i w x f) = rw w.packets (or_left (same (handle s.table.hub (suc s.table.last)) h) _ (rw (q, (f k c).is) (same_refl (handle s.table.hub (suc s.table.last)))))

-- the job with the next serial is made: it stands, and stood not
pub newest_made : (n : ℕ) (e : Event) (s : Server) → Running n s → s.table.last < 4294967295 → (next e s).table.last ≡ suc s.table.last
    → is_made (handle s.table.hub (suc s.table.last)) s.table (next e s).table ≡ true
newest_made n e s r room g =
    let h = handle s.table.hub (suc s.table.last) in
    let c = grown_creates s e g in
    let i : live (job_at (next e s).table c.place).row ≡ true = rw (c.is, ne_eqb (suc s.table.last) 0 c.some) in
    let a : At h (next e s).table = record { place = c.place; inside = inside_live (next e s).table c.place i; live' = i; is = ap (λ (name : Bytes). handle name (suc s.table.last)) (sym (hub_kept e s)) ∙ ap (handle (next e s).table.hub) (sym c.is) } in
    and_both (stands h (next e s).table) _ (at_stands h (next e s).table a) (rw (never (stands h s.table) (old h refl)))
  where
    old : (h : Bytes) → h ≡ handle s.table.hub (suc s.table.last) → stands h s.table ≡ true → ⊥
    old h q e =
        let u = stands_used n s r h e in
        let k : u.serial ≡ suc s.table.last = handle_one_to_one s.table.hub _ _ (omega (arith, u.past)) (omega arith) (sym u.is ∙ q) in
        omega (arith, u.past)

-- ---- what a packet gives stands before the event, or is made by it

pub given_stands : (n : ℕ) (e : Event) (s : Server) → Running n s → (h : Bytes) → given h (messages_of e s) ≡ true
    → stands h s.table || is_made h s.table (next e s).table ≡ true
given_stands n e s r h g = by (given_known e s h g)
  where
    by : Known s (next e s).table.last h → stands h s.table || is_made h s.table (next e s).table ≡ true
    by (standing a) = or_left (stands h s.table) _ (at_stands h s.table a)
    by (newest room last q) = or_right (stands h s.table) _ (subst (λ (x : Bytes). is_made x s.table (next e s).table ≡ true) (sym q) (newest_made n e s r room last))

-- ---- a new job's handle was given by no packet before

pub new_unheard : (n : ℕ) (e : Event) (s : Server) → Running n s → (between : List Event) (f : Event) (h : Bytes)
    → let r = after (next e s) between in Running n r → is_made h r.table (next f r).table ≡ true → given h (messages_of e s) ≡ false
new_unheard n e s k between f h j m = never (given h (messages_of e s)) (λ g.
    let r = after (next e s) between in
    let u = used_after between (next e s) h (given_used n e s k h g) in
    let (q, room) = made_newest f r h m in
    let z : u.serial ≡ suc r.table.last = handle_one_to_one r.table.hub _ _ (omega (arith, u.past)) room (sym u.is ∙ q) in
    omega (arith, u.past))

-- ---- gone for ever

gone_next : (n : ℕ) (e : Event) (s : Server) → Running n s → (h : Bytes) → Used h s.table → stands h s.table ≡ false → stands h (next e s).table ≡ false
gone_next n e s r h u g = never (stands h (next e s).table) (λ y.
    let (q, room) = made_newest e s h (and_both (stands h (next e s).table) _ y (rw g)) in
    let z : u.serial ≡ suc s.table.last = handle_one_to_one s.table.hub _ _ (omega (arith, u.past)) room (sym u.is ∙ q) in
    omega (arith, u.past))

-- a handle that was given out and is nobody's stays nobody's
pub gone_after : (n : ℕ) (es : List Event) (s : Server) → Running n s → (h : Bytes) → Used h s.table → stands h s.table ≡ false → stands h (after s es).table ≡ false
unfolding after
gone_after n [] s r h u g = g
gone_after n (e ∷ es) s r h u g = gone_after n es (next e s) (running_next n e s r) h (used_next e s h u) (gone_next n e s r h u g)

-- and no packet gives it
pub gone_ungiven : (n : ℕ) (e : Event) (s : Server) → Running n s → (h : Bytes) → Used h s.table → stands h s.table ≡ false → given h (messages_of e s) ≡ false
gone_ungiven n e s r h u g = never (given h (messages_of e s)) (λ y. clash (given_stands n e s r h y) (rw (g, gone_next n e s r h u g)))

-- ---- late results

nobody_holds : (c : ℕ) (h : Bytes) (t : Table) → stands h t ≡ false → held_job_of t c h ≡ None
unfolding holds_handle has_handle
nobody_holds c h t g = go (held_job_of t c h) refl
  where
    go : (o : Option ℕ) → held_job_of t c h ≡ o → o ≡ None
    go None e = refl
    go (Some p) e =
        let f = found (λ j. holds_handle t.hub c h j.row) no_job t.jobs (Some p) e in
        let r = (job_at t p).row in
        let a : has_handle t.hub h r ≡ true = and_right (held_by c r) _ f.passes in
        clash (at_stands h t (record { place = p; inside = f.inside; live' = and_left (live r) _ a; is = sym (same_is _ _ (and_right (live r) _ a)) })) g

-- what a worker packet asks, by its type: 25 is an exception, and 13, 14 and 25 end the job
pub work_kinds : (b : Bytes) (how : Work) (kind : ℕ) (h n d : Bytes) → request_in b ≡ work how kind h n d → (throwing how ≡ eqb kind 25) × (ends_job how ≡ is_ending kind)
work_kinds b how kind h n d q =
    let r = work_read b how kind h n d q in
    let z = sym (request_read b ∙ ap from_reading r.reads) ∙ q in
    let (tests, first, thrown, ending) = subst (Asks _ _ kind (request_shape kind)) z (asks_at kind _ _ _) in
    (thrown, ending)

-- a worker packet that names h asks for work on it
pub record AsksWork (b h : Bytes) : Type 0 where
  pub how : Work
  pub kind : ℕ
  pub n : Bytes
  pub d : Bytes
  pub is : request_in b ≡ work how kind h n d
  pub typed : kind ≡ number_at b 4
  pub thrown : throwing how ≡ eqb kind 25
  pub ending : ends_job how ≡ is_ending kind

work_requested : (kind : ℕ) (a b c : Bytes) → is_work kind ≡ true → (how : Work) × (n : Bytes) × (d : Bytes) × (requested kind a b c ≡ work how kind a n d)
unfolding requested
work_requested kind a b c = go (eqb 12 kind) refl (eqb 13 kind) refl (eqb 14 kind) refl (eqb 25 kind) refl (eqb 28 kind) refl (eqb 29 kind) refl
  where
    go : (x : Bool) → eqb 12 kind ≡ x → (y : Bool) → eqb 13 kind ≡ y → (z : Bool) → eqb 14 kind ≡ z → (u : Bool) → eqb 25 kind ≡ u → (v : Bool) → eqb 28 kind ≡ v → (w : Bool) → eqb 29 kind ≡ w
        → x || (y || (z || (u || (v || (w || false))))) ≡ true → (how : Work) × (n : Bytes) × (d : Bytes) × (requested kind a b c ≡ work how kind a n d)
    go true e y e₁ z e₂ u e₃ v e₄ w e₅ q = let k = eqb-true 12 kind e in (reports, b, c, rw (← k))
    go false e true e₁ z e₂ u e₃ v e₄ w e₅ q = let k = eqb-true 13 kind e₁ in (ends, [], [], rw (← k))
    go false e false e₁ true e₂ u e₃ v e₄ w e₅ q = let k = eqb-true 14 kind e₂ in (ends, [], [], rw (← k))
    go false e false e₁ false e₂ true e₃ v e₄ w e₅ q = let k = eqb-true 25 kind e₃ in (throws, [], [], rw (← k))
    go false e false e₁ false e₂ false e₃ true e₄ w e₅ q = let k = eqb-true 28 kind e₄ in (tells, [], [], rw (← k))
    go false e false e₁ false e₂ false e₃ false e₄ true e₅ q = let k = eqb-true 29 kind e₅ in (tells, [], [], rw (← k))
    go false e false e₁ false e₂ false e₃ false e₄ false e₅ q = clash q refl

first_is_lem : (h : Bytes) (args : List Bytes) → first_is h args ≡ true → get_or args 0 [] ≡ h
first_is_lem h [] e = clash e refl
first_is_lem h (a ∷ as') e = same_is a h e

pub asks_work : (b h : Bytes) → reading_tells h (read requests b) ≡ true → AsksWork b h
asks_work b h e = by (read requests b) refl e
  where
    by : (r : Reading) → read requests b ≡ r → reading_tells h r ≡ true → AsksWork b h
    by (refused m) q z = clash z refl
    by (got kind args) q z =
        let (how, n, d, w) = work_requested kind (get_or args 0 []) (get_or args 1 []) (get_or args 2 []) (and_left (is_work kind) _ z) in
        let i : request_in b ≡ work how kind h n d = request_read b ∙ ap from_reading q ∙ w ∙ ap (λ (a : Bytes). work how kind a n d) (first_is_lem h args (and_right (is_work kind) _ z)) in
        let (x, y) = work_kinds b how kind h n d i in
        record { how = how; kind = kind; n = n; d = d; is = i; typed = sym (read_got requests b kind args q).typed; thrown = x; ending = y }

pub open_inside : (t : Table) (c : ℕ) → is_open t c ≡ true → is_connection t c ≡ true
open_inside t c o = by (ltb c (length t.connections)) refl
  where
    by : (b : Bool) → ltb c (length t.connections) ≡ b → b ≡ true
    by true e = refl
    by false e = let q : connection_at t c ≡ closed = get_or-eq_default t.connections closed (ltb-false c (length t.connections) e) in clash o (ap (λ (x : Connection). x.opened) q)

-- a worker packet for a job that does not stand: 14
pub late_number : (c : ℕ) (b h : Bytes) (s : Server) → stands h s.table ≡ false → is_open s.table c ≡ true → reading_tells h (read requests b) ≡ true
    → (answer (sends c b) s).number ≡ 14
unfolding answer decided only_if_open served work_at refuse
late_number c b h s g o z =
    let a = asks_work b h z in
    rw (open_inside s.table c o, o, a.is, nobody_holds c h s.table g)

-- ---- the status of a job that does not stand

nobody_has : (h : Bytes) (t : Table) → stands h t ≡ false → job_of t h ≡ None
unfolding has_handle
nobody_has h t g = go (job_of t h) refl
  where
    go : (o : Option ℕ) → job_of t h ≡ o → o ≡ None
    go None e = refl
    go (Some p) e =
        let f = found (λ j. has_handle t.hub h j.row) no_job t.jobs (Some p) e in
        let r = (job_at t p).row in
        clash (at_stands h t (record { place = p; inside = f.inside; live' = and_left (live r) _ f.passes; is = sym (same_is _ _ (and_right (live r) _ f.passes)) })) g

asks_status : (b h : Bytes) → reading_asks h (read requests b) ≡ true → request_in b ≡ get_status h
unfolding requested
asks_status b h e = by (read requests b) refl e
  where
    by : (r : Reading) → read requests b ≡ r → reading_asks h r ≡ true → request_in b ≡ get_status h
    by (refused m) q z = clash z refl
    by (got kind args) q z =
        let k : kind ≡ 15 = eqb-true kind 15 (and_left (eqb kind 15) _ z) in
        request_read b ∙ ap from_reading q ∙ ap (λ (i : ℕ). requested i (get_or args 0 []) (get_or args 1 []) (get_or args 2 [])) k ∙ ap get_status (first_is_lem h args (and_right (eqb kind 15) _ z))

-- GET_STATUS for it: the unknown status, and nothing else
pub unknown_told : (n : ℕ) (c : ℕ) (b h : Bytes) (s : Server) → Running n s → stands h s.table ≡ false → is_open s.table c ≡ true → reading_asks h (read requests b) ≡ true
    → messages_of (sends c b) s ≡ unknown_job c h ∷ []
unfolding messages_of message_of decided only_if_open served status_at
unknown_told n c b h s r g o z = rw (open_inside s.table c o, o, asks_status b h z, nobody_has h s.table g, settle_nothing (plain c 20 (status_of None h s.table) ∷ []) s.table r.rules)
