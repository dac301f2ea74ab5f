-- What a packet of a foreground type asks, and to whom JOB_CREATED goes. Assumes nothing.
use Prim.Native.Nat.{ℕ, suc, ◌<◌}
use mathlib.Core.Path.{◌≡◌, refl, ap, sym, ◌∙◌}
use mathlib.Core.Bool.{Bool, true, false, not, cond, ◌||◌, ◌&&◌}
use Rattle.std.specs.Prelude.{Some, None}
use mathlib.Core.List.{List, [], ◌∷◌, map}
use native.Mathlib.Omega.{arith}
use borrow.Author.Tests.{eqb-true, lt-ltb}
use lib.ListN.{length, get_or, get_or-map}
use lib.Dec.{eqb}
use Rattle.octets.specs.Bytes.{Bytes, same}
use Rattle.octets.proofs.Strings.{and_false, and_left, and_right, same_is}
use Rattle.handle.specs.Handle.{handle}
use Rattle.packet.specs.Layout.{background_of}
use Rattle.packet.specs.Packet.{Reading, refused, got, read, requests}
use Rattle.packet_laws.proofs.Packets.{read_got}
use Rattle.lists.specs.Lists.{any}
use Rattle.lists.proofs.Rows.{clash, or_off, replicate_default}
use Rattle.server.specs.Table.{Table, job_at, set_job, with_row, live, room_for, free_place, joined}
use Rattle.server.specs.Requests.{Event, sends, Request, reset, pre_sleep, echo, can_do, cant_do, identify, grab, submit, work, get_status, option, requested, from_reading, request_in}
use Rattle.server.specs.Requests as R
use Rattle.server.specs.Refusals.{is_told}
use Rattle.server.specs.Events.{Send, Decision, silence, refuse, settle, error, noop, created, submitted_by, new_job, accepted, served, submit_new, submit_to, only_if_open, to_wake, dropped}
use Rattle.server.specs.Server.{Server, decided}
use Rattle.server_laws.proofs.Outcome.{Stands, Change, Served, Outcome, outcome}
use Rattle.server_laws.proofs.Going.{joined_found, joined_inside}
use Rattle.server_laws.proofs.Places.{place_changed}
use Rattle.server_calls.proofs.Packets.{is_bad}
use Rattle.demands.specs.Messages.{message_of, messages_of}
use Rattle.demands.specs.Conditions.{type_of, is_submission}
use Rattle.demands.specs.Listening.{is_foreground, created_is, tells_created}
use Rattle.demands.proofs.Unmasked.{request_read}
use Rattle.demands.proofs.Sorts.{is_submit, asks_sorted, Typed, typed, packet_typed}

-- ---- types

-- a submission's type is a foreground one or a background one
foreground_or : (kind : ℕ) → is_submission kind ≡ true → is_foreground kind ≡ not (background_of kind)
unfolding background_of
foreground_or kind = go (eqb 7 kind) refl (eqb 18 kind) refl (eqb 21 kind) refl (eqb 32 kind) refl (eqb 33 kind) refl (eqb 34 kind) refl
  where
    go : (a : Bool) → eqb 7 kind ≡ a → (b : Bool) → eqb 18 kind ≡ b → (c : Bool) → eqb 21 kind ≡ c → (d : Bool) → eqb 32 kind ≡ d → (e : Bool) → eqb 33 kind ≡ e → (f : Bool) → eqb 34 kind ≡ f
        → a || (b || (c || (d || (e || (f || false))))) ≡ true → is_foreground kind ≡ not (background_of kind)
    go true p b p₁ c p₂ d p₃ e p₄ f p₅ q = rw (← (eqb-true 7 kind p))
    go false p true p₁ c p₂ d p₃ e p₄ f p₅ q = rw (← (eqb-true 18 kind p₁))
    go false p false p₁ true p₂ d p₃ e p₄ f p₅ q = rw (← (eqb-true 21 kind p₂))
    go false p false p₁ false p₂ true p₃ e p₄ f p₅ q = rw (← (eqb-true 32 kind p₃))
    go false p false p₁ false p₂ false p₃ true p₄ f p₅ q = rw (← (eqb-true 33 kind p₄))
    go false p false p₁ false p₂ false p₃ false p₄ true p₅ q = rw (← (eqb-true 34 kind p₅))
    go false p false p₁ false p₂ false p₃ false p₄ false p₅ q = clash q refl

foreground_submits : (kind : ℕ) → is_submission kind ≡ false → is_foreground kind ≡ false
foreground_submits kind = go (eqb 7 kind) (eqb 18 kind) (eqb 21 kind) (eqb 32 kind) (eqb 33 kind) (eqb 34 kind)
  where
    go : (a b c d e f : Bool) → a || (b || (c || (d || (e || (f || false))))) ≡ false → a || (c || (e || false)) ≡ false
    go true b c d e f q = clash refl q
    go false true c d e f q = clash refl q
    go false false true d e f q = clash refl q
    go false false false true e f q = clash refl q
    go false false false false true f q = clash refl q
    go false false false false false f q = refl

-- ---- what is asked

-- the background mark of a submission; of anything else, d
abbrev mark_in : Bool → Request → Bool
mark_in d (submit priority background f u size) = background
mark_in d (R.bad n) = d
mark_in d reset = d
mark_in d pre_sleep = d
mark_in d echo = d
mark_in d (can_do f) = d
mark_in d (cant_do f) = d
mark_in d (identify i) = d
mark_in d (grab uniq) = d
mark_in d (work how kind h n x) = d
mark_in d (get_status h) = d
mark_in d (option name) = d

requested_mark : (kind : ℕ) (a b c : Bytes) → mark_in (background_of kind) (requested kind a b c) ≡ background_of kind
unfolding requested
requested_mark kind a b c = rw (← (get_or-map (mark_in (background_of kind)))) (replicate_default 35 kind (background_of kind))

-- a packet that asks for a submission has a submission's type
pub submission_typed : (b : Bytes) → is_submit (request_in b) ≡ true → is_submission (type_of b) ≡ true
submission_typed b q = by (packet_typed b)
  where
    by : Typed b → is_submission (type_of b) ≡ true
    by (Typed.unread n e) = clash q (ap is_submit e)
    by (typed s) = s.submits ∙ q

-- a packet that asks for a submission has a foreground type exactly if it is not in the background
pub foreground_asks : (b : Bytes) (priority : ℕ) (background : Bool) (f u : Bytes) (size : ℕ) → request_in b ≡ submit priority background f u size → is_foreground (type_of b) ≡ not background
foreground_asks b priority background f u size q = by (read requests b) refl (sym (request_read b) ∙ q)
  where
    by : (r : Reading) → read requests b ≡ r → from_reading r ≡ submit priority background f u size → is_foreground (type_of b) ≡ not background
    by (refused n) e z = let y : ◌≡◌ {A = ℕ} 0 1 = cc in absurd (omega arith)
    by (got kind args) e z =
        let g = read_got requests b kind args e in
        let i : is_submission kind ≡ true = (asks_sorted kind (get_or args 0 []) (get_or args 1 []) (get_or args 2 []) g.own).submits ∙ ap is_submit z in
        let m : background ≡ background_of kind = sym (ap (mark_in (background_of kind)) z) ∙ requested_mark kind (get_or args 0 []) (get_or args 1 []) (get_or args 2 []) in
        rw (g.typed, m) (foreground_or kind i)

-- what is no submission and could be read has another type
pub other_foreground : (b : Bytes) {a : Request} → request_in b ≡ a → is_submit a ≡ false → is_bad a ≡ false → is_foreground (type_of b) ≡ false
other_foreground b q i z = by (packet_typed b)
  where
    by : Typed b → is_foreground (type_of b) ≡ false
    by (Typed.unread n e) = clash (ap is_bad (sym q ∙ e)) z
    by (typed s) = foreground_submits (type_of b) (s.submits ∙ ap is_submit q ∙ i)

-- ---- JOB_CREATED

any_noops : (c : ℕ) (h : Bytes) (e : Event) (s : Server) (ls : List ℕ) → any (λ m. eqb m.to c && created_is h m.says) (map (message_of e s) (map noop ls)) ≡ false
unfolding message_of
any_noops c h e s [] = refl
any_noops c h e s (l ∷ ls) = rw (and_false (eqb l c), any_noops c h e s ls)

-- one JOB_CREATED, and then NOOPs
pub tells_created_lem : (c : ℕ) (h : Bytes) (e : Event) (s : Server) (d k : ℕ) (ls : List ℕ) → (decided e s).packets ≡ created s.table.hub d k ∷ map noop ls
    → tells_created c h (messages_of e s) ≡ eqb d c && same (handle s.table.hub k) h
unfolding tells_created messages_of message_of
tells_created_lem c h e s d k ls q = rw (q, any_noops c h e s ls) (or_off (eqb d c && same (handle s.table.hub k) h))

-- a submission that joins the job at place p, and one that makes a job
module _ (s : Server) (d : ℕ) (b : Bytes) (o : Stands s.table d true) (priority : ℕ) (background : Bool) (f u : Bytes) (size : ℕ) (q : request_in b ≡ submit priority background f u size) where
  join_decided : (p : ℕ) → joined s.table f u ≡ Some p
      → decided (sends d b) s ≡ settle (created s.table.hub d (job_at s.table p).row.serial ∷ []) (set_job s.table p (with_row (submitted_by d background (job_at s.table p).row) (job_at s.table p)))
  unfolding decided only_if_open served submit_to
  join_decided p r = rw (lt-ltb d (length s.table.connections) o.inside, o.state, q, r)

  pub join_packets : (p : ℕ) → joined s.table f u ≡ Some p → (ls : List ℕ) × ((decided (sends d b) s).packets ≡ created s.table.hub d (job_at s.table p).row.serial ∷ map noop ls)
  unfolding settle
  join_packets p r =
      (to_wake (dropped (set_job s.table p (with_row (submitted_by d background (job_at s.table p).row) (job_at s.table p)))), ap (λ (x : Decision). x.packets) (join_decided p r))

  make_decided : (k p : ℕ) → joined s.table f u ≡ None → room_for s.table.functions f ≡ Some k → free_place s.table ≡ Some p → s.table.last < 4294967295
      → decided (sends d b) s ≡ settle (created s.table.hub d (suc s.table.last) ∷ []) (accepted k f p (new_job d priority background k u size (suc s.table.last)) s.table)
  unfolding decided only_if_open served submit_to submit_new
  make_decided k p r₁ r₂ r₃ l = rw (lt-ltb d (length s.table.connections) o.inside, o.state, q, r₁, r₂, r₃, lt-ltb s.table.last 4294967295 l)

  pub make_packets : (k p : ℕ) → joined s.table f u ≡ None → room_for s.table.functions f ≡ Some k → free_place s.table ≡ Some p → s.table.last < 4294967295
      → (ls : List ℕ) × ((decided (sends d b) s).packets ≡ created s.table.hub d (suc s.table.last) ∷ map noop ls)
  unfolding settle
  make_packets k p r₁ r₂ r₃ l =
      (to_wake (dropped (accepted k f p (new_job d priority background k u size (suc s.table.last)) s.table)), ap (λ (x : Decision). x.packets) (make_decided k p r₁ r₂ r₃ l))

-- a refused packet tells nobody of a job
refused_tells : (c : ℕ) (h : Bytes) (e : Event) (s : Server) (d n : ℕ) → any (λ m. eqb m.to c && created_is h m.says) (map (message_of e s) (refuse d n s.table).packets) ≡ false
unfolding refuse message_of
refused_tells c h e s d n = go (is_told n)
  where
    go : (b : Bool) → any (λ m. eqb m.to c && created_is h m.says) (map (message_of e s) (cond b (error d n ∷ []) [])) ≡ false
    go true = rw (and_false (eqb d c))
    go false = refl

-- ---- which job a foreground submission's JOB_CREATED names

pub data Created (d : ℕ) (b : Bytes) (t : Table) (h : Bytes) : Type 0 where
  by_joining : Stands t d true → (p : ℕ) → place_changed d t (request_in b) ≡ Some p → p < length t.jobs → live (job_at t p).row ≡ true → h ≡ handle t.hub (job_at t p).row.serial → Created d b t h
  by_making : t.last < 4294967295 → h ≡ handle t.hub (suc t.last) → Created d b t h

module _ (c d : ℕ) (b h : Bytes) (s : Server) where
  abbrev e : Event
  e = sends d b

  abbrev Says : Decision → Type 0
  Says x = is_foreground (type_of b) && any (λ m. eqb m.to c && created_is h m.says) (map (message_of e s) x.packets) ≡ true → Created d b s.table h

  quiet : {a : Request} {A : Type 0} (y : Bool) → request_in b ≡ a → is_submit a ≡ false → is_bad a ≡ false → is_foreground (type_of b) && y ≡ true → A
  quiet y q i z g = clash (and_left (is_foreground (type_of b)) _ g) (other_foreground b q i z)

  -- the first packet alone can be JOB_CREATED
  first_told : (k : ℕ) (v : Table) → is_foreground (type_of b) && any (λ m. eqb m.to c && created_is h m.says) (map (message_of e s) (settle (created s.table.hub d k ∷ []) v).packets) ≡ true → h ≡ handle s.table.hub k
  unfolding message_of settle
  first_told k v g =
      let w : (eqb d c && same (handle s.table.hub k) h) || false ≡ true = rw (any_noops c h e s (to_wake (dropped v))) at (and_right (is_foreground (type_of b)) _ g) in
      sym (same_is _ _ (and_right (eqb d c) _ (sym (or_off _) ∙ w)))

  says_change : {a : Request} {ss : List Send} {v : Table} → request_in b ≡ a → Stands s.table d true → Change d s.table a ss v → Says (settle ss v)
  unfolding place_changed
  says_change q o (Change.able f k r) = quiet _ q refl refl
  says_change q o (Change.unknown f r) = quiet _ q refl refl
  says_change q o (Change.disabled f k r) = quiet _ q refl refl
  says_change q o (Change.identified i) = quiet _ q refl refl
  says_change q o Change.cleared = quiet _ q refl refl
  says_change q o Change.slept = quiet _ q refl refl
  says_change q o (Change.no_job_for uniq r) = quiet _ q refl refl
  says_change q o (Change.grabbed uniq p r) = quiet _ q refl refl
  says_change q o (Change.joins priority background f u size p r) = λ g.
      by_joining o p (ap (place_changed d s.table) q ∙ rw r) (joined_inside s.table f u p r) (joined_found s.table f u p r) (first_told _ _ g)
  says_change q o (Change.accepts priority background f u size k p r₁ r₂ r₃ l) = λ g. by_making l (first_told _ _ g)
  says_change q o (Change.worker how kind j x y p r) = quiet _ q refl refl
  says_change q o (Change.status j i r) = quiet _ q refl refl
  says_change q o (Change.optioned name r) = quiet _ q refl refl
  says_change q o Change.echoed = quiet _ q refl refl

  says_served : {a : Request} {x : Decision} → request_in b ≡ a → Stands s.table d true → Served d s.table a x → Says x
  says_served q o (Served.refused a n r) = λ g. clash (and_right (is_foreground (type_of b)) _ g) (refused_tells c h e s d n)
  says_served q o (Served.done a ss v m) = says_change q o m

  says_outcome : {x : Decision} → Outcome s.table e x → Says x
  unfolding silence
  says_outcome (Outcome.silenced f n r) = λ g. clash (and_right (is_foreground (type_of b)) _ g) refl
  says_outcome (Outcome.serves d b x o r) = says_served refl o r

  pub created_known : is_foreground (type_of b) && tells_created c h (messages_of e s) ≡ true → Created d b s.table h
  unfolding tells_created messages_of
  created_known = says_outcome (outcome e s)
