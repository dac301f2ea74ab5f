-- Over a history, the listeners of a job are those who were told its handle since they opened; and a worker packet goes to each of them
-- once. Assumes nothing.
use Prim.Native.Nat.{ℕ, suc, ◌<◌}
use mathlib.Core.Path.{◌≡◌, refl, ap, ap₂, sym, ◌∙◌, subst}
use mathlib.Core.Bool.{Bool, true, false, cond, ◌||◌, ◌&&◌}
use Rattle.std.specs.Prelude.{Option, Some, None}
use mathlib.Core.List.{List, [], ◌∷◌, map}
use native.Mathlib.Omega.{arith}
use borrow.Author.Tests.{ltb-true}
use lib.ListN.{length}
use lib.Dec.{eqb, ltb}
use Rattle.octets.specs.Bytes.{Bytes}
use Rattle.octets.proofs.Strings.{and_false, and_left, and_right, and_both, same_is}
use Rattle.handle.specs.Handle.{handle, is_hub_name}
use Rattle.handle.proofs.Handles.{handle_one_to_one}
use Rattle.sets.specs.Sets.{has}
use Rattle.packet.specs.Packet.{Reading, refused, got, read, requests}
use Rattle.lists.specs.Lists.{implies}
use Rattle.lists.proofs.Cases.{All}
use Rattle.lists.proofs.Rows.{clash, never, or_left, any_imp, replicate_default}
use Rattle.lists.proofs.Maps.{map_each}
use Rattle.lists.proofs.Searches.{found}
use Rattle.server.specs.declared.Connection.{Connection}
use Rattle.server.specs.Table.{Table, Job, closed, no_job, job_at, live, held_by, has_handle, fresh}
use Rattle.server.specs.Requests.{Event, sends, Work, tells, reports, ends, throws, Request, work, request_in}
use Rattle.server.specs.Events.{copy, Decision, refuse, silence, holds_handle, hears, failure, to_listener, worked, served, work_at, only_if_open, held_job_of}
use Rattle.server.specs.Rules.{is_open}
use Rattle.server.specs.Server.{Server, answer, decided, next, start}
use Rattle.server.specs.Call.{server_in}
use Rattle.server_laws.proofs.Places.{place_changed, Untouched, Becomes, stays, begins, joins, taken}
use Rattle.server_laws.proofs.Places as P
use Rattle.server_laws.proofs.Fates.{ends_job, fates}
use Rattle.server_words.proofs.Telling.{ToldOnce, work_told}
use Rattle.server_calls.specs.History.{Call, Memory, calls, leaves}
use Rattle.server_calls.proofs.Follows.{Running}
use Rattle.server_calls.proofs.Histories.{LongOutputs}
use Rattle.demands.specs.Messages.{Message, told, arguments_of, message_of, messages_of}
use Rattle.demands.specs.Handles.{is_ending, gives_handle, reading_gives, reading_tells, given, stands}
use Rattle.demands.specs.Hub.{Hub, Long, call_on, kept, after_calls, results_of, table_in, server_of, fresh_memory, Room}
use Rattle.demands.specs.Conditions.{type_of}
use Rattle.demands.specs.Listening.{created_is, tells_created, submits, turns, heard_after, heard, listens, catches, option_in, wants, result_for, EachOnce}
use Rattle.demands.proofs.Given.{At, stands_at, at_stands}
use Rattle.demands.proofs.Numbers.{throwing}
use Rattle.demands.proofs.Gone.{Used, given_used, stands_used, used_next, made_newest, inside_live, hub_before, AsksWork, asks_work}
use Rattle.demands.proofs.Hubs.{hub_fresh, fresh_server, hub_runs, call_number, call_tells, call_hub, call_next, calls_hub}
use Rattle.demands.proofs.Options.{calls_option}
use Rattle.demands.proofs.Listeners.{handle_place, listens_at, nobody_listens, listener_inside, step_heard}

-- ---- who was told has heard of a used handle

created_gives : (h : Bytes) (r : Reading) → created_is h r ≡ true → reading_gives h r ≡ true
created_gives h (refused n) e = e
created_gives h (got kind args) e =
    and_both (gives_handle kind) _ (or_left (eqb kind 8) _ (and_left (eqb kind 8) _ e)) (and_right (eqb kind 8) _ e)

tells_given : (c : ℕ) (h : Bytes) (ms : List Message) → tells_created c h ms ≡ true → given h ms ≡ true
unfolding tells_created given
tells_given c h ms e = any_imp (λ m. eqb m.to c && created_is h m.says) (λ m. reading_gives h m.says) (λ m z. created_gives h m.says (and_right (eqb m.to c) _ z)) ms e

listens_stands : (c : ℕ) (h : Bytes) (t : Table) → listens c h t ≡ true → stands h t ≡ true
unfolding listens stands
listens_stands c h t e = any_imp (λ j. has_handle t.hub h j.row && has j.row.listeners c) (λ j. has_handle t.hub h j.row) (λ j z. and_left (has_handle t.hub h j.row) _ z) t.jobs e

heard_used : (n : ℕ) (e : Event) (s : Server) → Running n s → (c : ℕ) (h : Bytes) (x : Bool) → (x ≡ true → Used h s.table)
    → heard_after c h x e (answer e s).number (messages_of e s) ≡ true → Used h (next e s).table
heard_used n e s r c h x f = by (eqb (answer e s).number 0 && turns c e) x refl
  where
    by : (b y : Bool) → y ≡ x → cond b false (y || (submits c e && tells_created c h (messages_of e s))) ≡ true → Used h (next e s).table
    by true y q z = clash z refl
    by false true q z = used_next e s h (f (sym q))
    by false false q z = given_used n e s r h (tells_given c h (messages_of e s) (and_right (submits c e) _ z))

-- ---- over a history

module _ (n : ℕ) (c : ℕ) (h : Bytes) where
  -- before a job stands whose handle somebody has not heard of, nobody listens
  heard_before : (e : Event) (s : Server) → Running n s → (x : Bool) → (stands h s.table ≡ true → listens c h s.table ≡ x) → (x ≡ true → Used h s.table)
      → stands h (next e s).table ≡ true → listens c h s.table ≡ x
  heard_before e s r x a u y = by (stands h s.table) refl
    where
      by : (b : Bool) → stands h s.table ≡ b → listens c h s.table ≡ x
      by true q = a q
      by false q = nobody_listens n s r c h (λ z. clash z q) ∙ sym (never x (λ z.
          let v = u z in
          let (k, room) = made_newest e s h (and_both (stands h (next e s).table) _ y (rw q)) in
          let w : v.serial ≡ suc s.table.last = handle_one_to_one s.table.hub _ _ (omega (arith, v.past)) room (sym v.is ∙ k) in
          omega (arith, v.past)))

  history_heard : (xs : List Call) (m : Memory) → Hub n m → LongOutputs n xs → (x : Bool) → (stands h (server_of n m).table ≡ true → listens c h (server_of n m).table ≡ x)
      → (x ≡ true → Used h (server_of n m).table)
      → stands h (server_of n (after_calls n xs m)).table ≡ true → listens c h (server_of n (after_calls n xs m)).table ≡ heard c h x xs (results_of n xs m)
  unfolding heard calls leaves
  history_heard [] m hub All.none x a u y = a y
  history_heard (z ∷ xs) m hub (All.more l ls) x a u y =
      let e = z.event in
      let s = server_of n m in
      let r = hub_runs n m hub in
      let k = kept (call_on n m z) in
      let q : server_of n k ≡ next e s = call_next n m hub z l in
      let same : heard_after c h x e (call_on n m z).number (told (call_on n m z)) ≡ heard_after c h x e (answer e s).number (messages_of e s) = ap₂ (heard_after c h x e) (call_number n m hub z l) (call_tells n m hub z l) in
      history_heard xs k (call_hub n m hub z l) ls (heard_after c h x e (call_on n m z).number (told (call_on n m z)))
      (λ w. let v : stands h (next e s).table ≡ true = subst (λ (o : Server). stands h o.table ≡ true) q w in
      ap (λ (o : Server). listens c h o.table) q ∙ step_heard n s r c h e v ∙ ap (λ (b : Bool). heard_after c h b e (answer e s).number (messages_of e s)) (heard_before e s r x a u v) ∙ sym same)
      (λ w. subst (λ (o : Server). Used h o.table) (sym q) (heard_used n e s r c h x u (sym same ∙ w)))
      y

  -- from any memory: those who listen in it count as told
  pub calls_heard : (xs : List Call) (m : Memory) → Hub n m → LongOutputs n xs → stands h (table_in n (after_calls n xs m)) ≡ true
      → listens c h (table_in n (after_calls n xs m)) ≡ heard c h (listens c h (table_in n m)) xs (results_of n xs m)
  unfolding server_in
  calls_heard xs m hub l y =
      history_heard xs m hub l (listens c h (server_of n m).table) (λ z. refl) (λ z. stands_used n (server_of n m) (hub_runs n m hub) h (listens_stands c h (server_of n m).table z)) y

-- ---- a worker packet that is taken

open_done : (i o : Bool) (t : Table) (x : Decision) → (only_if_open i o t x).number ≡ 0 → (i ≡ true) × (o ≡ true)
unfolding only_if_open silence
open_done false o t x e = absurd (omega arith)
open_done true false t x e = absurd (omega arith)
open_done true true t x e = (refl, refl)

work_done : (o : Option ℕ) (how : Work) (kind c : ℕ) (n d : Bytes) (t : Table) → (work_at o how kind c n d t).number ≡ 0 → (p : ℕ) × (o ≡ Some p)
unfolding work_at refuse
work_done None how kind c n d t e = absurd (omega arith)
work_done (Some p) how kind c n d t e = (p, refl)

hears_wants : (how : Work) (kind : ℕ) (t : Table) (l : ℕ) → throwing how ≡ eqb kind 25 → hears how t l ≡ wants (option_in t) kind l
hears_wants tells kind t l e = rw (← e)
hears_wants reports kind t l e = rw (← e)
hears_wants ends kind t l e = rw (← e)
hears_wants throws kind t l e = rw (← e)

-- a packet that ends the job leaves none
ended_row : (how : Work) (n d : Bytes) (j : Job) → ends_job how ≡ true → live (worked how n d j).row ≡ false
ended_row tells n d j e = clash e refl
ended_row reports n d j e = clash e refl
ended_row ends n d j e = refl
ended_row throws n d j e = refl

-- what each of them is told
module _ (e : Event) (s : Server) (how : Work) (kind p : ℕ) (h : Bytes) (t : throwing how ≡ eqb kind 25) (q : h ≡ handle s.table.hub (job_at s.table p).row.serial) where
  told_one : (l : ℕ) (b : Bool) → message_of e s (cond b (copy l kind) (failure s.table.hub (job_at s.table p).row.serial l)) ≡ record { to = l; says = cond b (got kind (arguments_of e)) (got 14 (h ∷ [])) }
  unfolding message_of
  told_one l true = refl
  told_one l false = rw q

  map_told : (ls : List ℕ) → map (message_of e s) (map (to_listener how kind s.table (job_at s.table p).row) ls) ≡ map (λ l. record { to = l; says = result_for (option_in s.table) kind (arguments_of e) h l }) ls
  map_told [] = refl
  map_told (l ∷ ls) =
      ap₂ ◌∷◌ (told_one l (hears how s.table l) ∙ ap (λ (b : Bool). record { to = l; says = cond b (got kind (arguments_of e)) (got 14 (h ∷ [])) }) (hears_wants how kind s.table l t)) (map_told ls)

module _ (n : ℕ) (s : Server) (r : Running n s) (d : ℕ) (b h : Bytes) (w : reading_tells h (read requests b) ≡ true) (z : (answer (sends d b) s).number ≡ 0) where
  abbrev t : Table
  t = s.table

  abbrev asked : AsksWork b h
  asked = asks_work b h w

  -- the job that it names is held by its sender
  opened : (ltb d (length t.connections) ≡ true) × (is_open t d ≡ true)
  unfolding answer decided
  opened = open_done (ltb d (length t.connections)) (is_open t d) t (served d (request_in b) t) z

  decided_is : decided (sends d b) s ≡ served d (work asked.how asked.kind h asked.n asked.d) t
  unfolding decided only_if_open
  decided_is = rw (opened.0, opened.1) (ap (λ (q : Request). served d q t) asked.is)

  held : (p : ℕ) × (held_job_of t d h ≡ Some p)
  unfolding answer served
  held = work_done (held_job_of t d h) asked.how asked.kind d asked.n asked.d t (sym (ap (λ (x : Decision). x.number) decided_is) ∙ z)

  held_at : At h t
  unfolding holds_handle has_handle
  held_at =
      let (p, q) = held in
      let f = found (λ j. holds_handle t.hub d h j.row) no_job t.jobs (Some p) q in
      let row = (job_at t p).row in
      let x : has_handle t.hub h row ≡ true = and_right (held_by d row) _ f.passes in
      record { place = p; inside = f.inside; live' = and_left (live row) _ x; is = sym (same_is _ _ (and_right (live row) _ x)) }

  held_is : h ≡ handle t.hub (job_at t held.0).row.serial
  unfolding held_at
  held_is = held_at.is

  held_listens : (l : ℕ) → ltb l (length t.connections) && has (job_at t held.0).row.listeners l ≡ listens l h t
  unfolding held_at
  held_listens l = by (has (job_at t held.0).row.listeners l) refl ∙ sym (listens_at n s r l h held_at)
    where
      by : (x : Bool) → has (job_at t held.0).row.listeners l ≡ x → ltb l (length t.connections) && x ≡ has (job_at t held.0).row.listeners l
      by true e = rw (listener_inside n s r l held.0 e, e)
      by false e = and_false (ltb l (length t.connections)) ∙ sym e

  pub held_stands : stands h t ≡ true
  held_stands = at_stands h t held_at

  pub tells_each : EachOnce (λ l. listens l h t) (result_for (option_in t) (type_of b) (arguments_of (sends d b)) h) (messages_of (sends d b) s)
  unfolding messages_of
  tells_each =
      let a = asked in
      let (p, q) = held in
      let o : ToldOnce t a.how a.kind p (served d (work a.how a.kind h a.n a.d) t) = work_told t d a.how a.kind h a.n a.d p q r.rules in
      record {
        to = o.listeners;
        packets = ap (λ (x : Decision). map (message_of (sends d b) s) x.packets) decided_is ∙ ap (map (message_of (sends d b) s)) o.packets ∙ map_told (sends d b) s a.how a.kind p h a.thrown held_is o.listeners ∙ rw a.typed;
        rising = o.rising;
        exactly = λ l. o.exactly l ∙ held_listens l;
      }

  -- a job that it ends stands no more: what stands afterwards with its handle would be a job that it did not touch
  not_untouched : (i : ℕ) → i < length t.jobs → live (job_at t i).row ≡ true → h ≡ handle t.hub (job_at t i).row.serial → ¬ Untouched t i (sends d b)
  unfolding held_at place_changed
  not_untouched i j l q u =
      let (p, f) = held in
      let e : i ≡ p = handle_place n s r h held_at i j l q in
      u (record { inside = ltb-true d (length t.connections) opened.0; state = opened.1 }) (ap (place_changed d t) asked.is ∙ f ∙ ap Some (sym e))

  ended_at : ends_job asked.how ≡ true → (i : ℕ) {last : ℕ} {k : Job} → Becomes t last i (job_at t i) (sends d b) k → live k.row ≡ true → ¬ (h ≡ handle t.hub k.row.serial)
  ended_at z i (stays e u) l g = not_untouched i (inside_live t i l) l g u
  ended_at z i (begins d b priority background f w size x o a y r₁ r₂ r₃ m e) l g = let q : ◌≡◌ {A = ℕ} 0 1 = cc (sym a ∙ asked.is) in omega arith
  ended_at z i (joins d b priority background f w size o a y) l g = let q : ◌≡◌ {A = ℕ} 0 1 = cc (sym a ∙ asked.is) in omega arith
  ended_at z i (taken d b uniq o a y) l g = let q : ◌≡◌ {A = ℕ} 0 1 = cc (sym a ∙ asked.is) in omega arith
  ended_at z i (P.told d b how kind j x y o a w) l g = clash l (ended_row how x y (job_at t i) (let q : how ≡ asked.how = cc (sym a ∙ asked.is) in ap ends_job q ∙ z))

  pub job_ended : ends_job asked.how ≡ true → stands h (next (sends d b) s).table ≡ false
  unfolding next
  job_ended z = never _ (λ y. let a = stands_at h (decided (sends d b) s).table y in ended_at z a.place (fates (sends d b) s r.rules a.place) a.live' (hub_before (sends d b) s h a))

-- ---- over calls

-- what a call with a worker packet tells, if it is done
pub call_tells_each : (n : ℕ) (m : Memory) → Hub n m → (x : Call) → Long n x → (d : ℕ) (b h : Bytes) → x.event ≡ sends d b → reading_tells h (read requests b) ≡ true → (call_on n m x).number ≡ 0
    → EachOnce (λ l. listens l h (table_in n m)) (result_for (option_in (table_in n m)) (type_of b) (arguments_of (sends d b)) h) (told (call_on n m x))
unfolding server_in
call_tells_each n m hub x l d b h e w z =
    let s = server_of n m in
    let y : (answer (sends d b) s).number ≡ 0 = sym (ap (λ (v : Event). (answer v s).number) e) ∙ sym (call_number n m hub x l) ∙ z in
    subst (EachOnce (λ i. listens i h (table_in n m)) (result_for (option_in (table_in n m)) (type_of b) (arguments_of (sends d b)) h)) (sym (call_tells n m hub x l ∙ ap (λ (v : Event). messages_of v s) e))
    (tells_each n s (hub_runs n m hub) d b h w y)

-- after a call with a worker packet that ends its job, if it is done
pub call_ends : (n : ℕ) (m : Memory) → Hub n m → (x : Call) → Long n x → (d : ℕ) (b h : Bytes) → x.event ≡ sends d b → reading_tells h (read requests b) ≡ true → is_ending (type_of b) ≡ true
    → (call_on n m x).number ≡ 0 → stands h (table_in n (kept (call_on n m x))) ≡ false
unfolding server_in
call_ends n m hub x l d b h e w i z =
    let s = server_of n m in
    let a = asks_work b h w in
    let y : (answer (sends d b) s).number ≡ 0 = sym (ap (λ (v : Event). (answer v s).number) e) ∙ sym (call_number n m hub x l) ∙ z in
    ap (λ (v : Server). stands h v.table) (call_next n m hub x l ∙ ap (λ (v : Event). next v s) e) ∙ job_ended n s (hub_runs n m hub) d b h w y (a.ending ∙ ap is_ending a.typed ∙ i)

pub call_held_stands : (n : ℕ) (m : Memory) → Hub n m → (x : Call) → Long n x → (d : ℕ) (b h : Bytes) → x.event ≡ sends d b → reading_tells h (read requests b) ≡ true → (call_on n m x).number ≡ 0
    → stands h (table_in n m) ≡ true
unfolding server_in
call_held_stands n m hub x l d b h e w z =
    let s = server_of n m in
    held_stands n s (hub_runs n m hub) d b h w (sym (ap (λ (v : Event). (answer v s).number) e) ∙ sym (call_number n m hub x l) ∙ z)

-- after calls from a memory in which nobody listens to the job and nobody has set the option, as in a fresh one: exactly those who were
-- told, and the exception to those who asked for it
pub results_told : (n : ℕ) (xs : List Call) (m : Memory) → Hub n m → LongOutputs n xs → (h : Bytes) → ((l : ℕ) → listens l h (table_in n m) ≡ false) → ((l : ℕ) → option_in (table_in n m) l ≡ false)
    → let u = after_calls n xs m in (x : Call) → Long n x → (d : ℕ) (b : Bytes) → x.event ≡ sends d b → reading_tells h (read requests b) ≡ true → (call_on n u x).number ≡ 0
    → EachOnce (λ l. heard l h false xs (results_of n xs m)) (result_for (λ l. catches l false xs (results_of n xs m)) (type_of b) (arguments_of (sends d b)) h) (told (call_on n u x))
results_told n xs m hub ls h f g x l d b e w z =
    let u = after_calls n xs m in
    let hu = calls_hub n xs m hub ls in
    let y = call_held_stands n u hu x l d b h e w z in
    let o = call_tells_each n u hu x l d b h e w z in
    let set : (i : ℕ) → option_in (table_in n u) i ≡ catches i false xs (results_of n xs m) = λ i. calls_option i n xs m hub ls ∙ ap (λ (q : Bool). catches i q xs (results_of n xs m)) (g i) in
    record {
      to = o.to;
      packets = o.packets ∙ map_each _ _ (λ i. ap (λ (q : Bool). record { to = i; says = cond (implies (eqb (type_of b) 25) q) (got (type_of b) (arguments_of (sends d b))) (got 14 (h ∷ [])) }) (set i)) o.to;
      rising = o.rising;
      exactly = λ i. o.exactly i ∙ calls_heard n i h xs m hub ls y ∙ ap (λ (q : Bool). heard i h q xs (results_of n xs m)) (f i);
    }

-- in a fresh memory nobody listens, and nobody has set the option
fresh_silent : (n : ℕ) (name : Bytes) (l : ℕ) (h : Bytes) → listens l h (start n name).table ≡ false
unfolding start fresh listens has_handle
fresh_silent n name l h = refl

fresh_unset : (n : ℕ) (name : Bytes) (l : ℕ) → option_in (start n name).table l ≡ false
unfolding start fresh
fresh_unset n name l = ap (λ (x : Connection). x.exceptions) (replicate_default n l closed)

pub fresh_results : (n : ℕ) (name : Bytes) → is_hub_name name ≡ true → (t w : Bytes) → Room n t w → (xs : List Call) → LongOutputs n xs
    → let m = fresh_memory n name t w in let u = after_calls n xs m in
    (x : Call) → Long n x → (d : ℕ) (b h : Bytes) → x.event ≡ sends d b → reading_tells h (read requests b) ≡ true → (call_on n u x).number ≡ 0
    → EachOnce (λ l. heard l h false xs (results_of n xs m)) (result_for (λ l. catches l false xs (results_of n xs m)) (type_of b) (arguments_of (sends d b)) h) (told (call_on n u x))
unfolding server_in
fresh_results n name good t w room xs ls x l d b h e z y =
    results_told n xs (fresh_memory n name t w) (hub_fresh n name good t w room) ls h (λ i. ap (λ (s : Server). listens i h s.table) (fresh_server n name good t w room) ∙ fresh_silent n name i h)
    (λ i. ap (λ (s : Server). option_in s.table i) (fresh_server n name good t w room) ∙ fresh_unset n name i) x l d b e z y
