-- The plans of the events, as the code makes them, concluded on the lent bytes: each is the call of its event. Assumes nothing.
use Prim.Native.Nat.{ℕ, ◌<◌, ◌≤◌, zero-le}
use mathlib.Core.Path.{◌≡◌, refl, ap, ap₂, sym, ◌∙◌}
use mathlib.Core.Bool.{Bool, true, false, cond}
use mathlib.Core.List.{List, [], ◌∷◌, map}
use native.Mathlib.Omega.{arith}
use borrow.Author.Tests.{le-ltb}
use lib.ListN.{length, drop, length-append, length-drop}
use Rattle.octets.specs.Bytes.{Bytes}
use Rattle.octets.specs.Put.{put}
use Rattle.packet.specs.declared.Ends.{Ends}
use Rattle.packet.specs.declared.Refusal.{Refusal}
use Rattle.packet.specs.Refusals.{number_of}
use Rattle.std.specs.Prelude.{Err}
use Rattle.packet.specs.Layout.{request_shape, rules_of, separators_of}
use Rattle.packet.specs.Arguments.{ends_of}
use Rattle.packet.specs.Packet.{Reading, got, read, requests}
use Rattle.packet.specs.Packet as P
use Rattle.packet.specs.Opaque.{ends_opaque, masked, opaque, visible}
use Rattle.packet.specs.Answers.{answer_of, argument_at, between, found}
use Rattle.packet_laws.proofs.Answers.{read_answer, refused_answer}
use Rattle.packet_laws.proofs.Packets.{Headed, header_good, read_got, requests_well}
use Rattle.packet_laws.proofs.Blindness.{opaque_at, opaque_none, answer_masked}
use Rattle.packet_laws.proofs.Places.{argument_read}
use Rattle.packet_kinds.proofs.Shapes.{at_most_five}
use Rattle.lists.proofs.Cases.{All, all_append}
use Rattle.server.specs.Sizes.{connection_count}
use Rattle.server.specs.Requests.{Event, opens, closes, sends, Request, bad, requested, from_reading, request_in}
use Rattle.server.specs.Events.{Send, plain, assign, noop, refuse, served, to_wake_in}
use Rattle.server.specs.Server.{Server, render, opaque_of, decided}
use Rattle.server.specs.Layout.{table_of}
use Rattle.server.specs.Call.{sent_bytes, server_in, call, left}
use Rattle.server.specs.Refusals.{last_number}
use Rattle.server_laws.proofs.Refusals.{bad_within_lem}
use Rattle.server_laws.proofs.Outcome.{opening_decided, closing_decided, served_decided}
use Rattle.plan.specs.declared.Plan.{Plan}
use Rattle.plan.specs.declared.Values.{Values}
use Rattle.plan.specs.Values.{values_of}
use Rattle.plan.specs.Settling.{dropped_rows}
use Rattle.plan.specs.Steps.{stepped}
use Rattle.plan.specs.Parts.{ordered}
use Rattle.plan.specs.Plans.{plan_served, plan_opening, plan_closing}
use Rattle.plan_laws.proofs.Decides.{Words, Planned, served_planned, opening_planned, closing_planned}
use Rattle.packet_laws.proofs.Blindness.{data_whole}
use Rattle.carry_places.proofs.Laid.{Whole}
use Rattle.carry_whole.specs.Fitting.{Fitting}
use Rattle.carry_whole.proofs.Laid.{whole}
use Rattle.carry_output.specs.Orderly.{Orderly}
use Rattle.carry_output.specs.Ordered.{bytes_sent}
use Rattle.carry_laws.proofs.Requests.{words_given, request_suits}
use Rattle.carry_laws.proofs.Sizes.{sized}
use Rattle.carry_laws.proofs.Places.{served_fitting, opening_fitting, closing_fitting}
use Rattle.carry_laws.proofs.Orders.{served_orderly}
use Rattle.plan_request.proofs.Asks.{asks, good_arguments}
use Rattle.carry_event.specs.Concluded.{Ready, concluded, opaque_in, opaque_place, refusal_bytes}
use Rattle.call_laws.proofs.Conclusion.{sound, Follows, small_number, ready, concluded_performed, refusal_performed}
use Rattle.call_laws.proofs.Admitted.{Admitted, stands, call_performed}

-- ---- the opaque argument of a request

-- there is no sixth argument
beyond : (p : Bytes) (ends : Ends) → argument_at p ends 5 ≡ []
unfolding argument_at between
beyond p ends = rw (le-ltb ends.fifth 0 zero-le)

module _ (p : Bytes) (ends : Ends) (kind : ℕ) (came : answer_of (read requests p) ≡ found kind ends) where
  abbrev read_as : (as' : List Bytes) × (read requests p ≡ got kind as') × (ends ≡ ends_of 12 as')
  read_as = read_answer (read requests p) kind ends came

  opaque_is : opaque_in p kind ends ≡ opaque requests p
  unfolding opaque_in opaque_place
  opaque_is = go (ends_opaque (rules_of (request_shape kind))) refl
    where
      go : (b : Bool) → ends_opaque (rules_of (request_shape kind)) ≡ b → argument_at p ends (cond b (separators_of (request_shape kind)) 5) ≡ opaque requests p
      go true e =
          let l : separators_of (request_shape kind) < 5 = omega (arith, at_most_five (request_shape kind)) in
          ap (λ (x : Ends). argument_at p x (separators_of (request_shape kind))) read_as.2
          ∙ argument_read requests p kind read_as.0 read_as.1 (separators_of (request_shape kind)) l
          ∙ opaque_at requests requests_well p kind read_as.0 read_as.1 e
      go false e = beyond p ends ∙ sym (opaque_none requests requests_well p kind read_as.0 read_as.1 e)

  opaque_small : length (opaque_in p kind ends) ≤ 1024
  opaque_small =
      let h : Headed requests.magic requests.most p = header_good _ _ p (read_got requests p kind read_as.0 read_as.1).headed in
      rw opaque_is
      (omega (arith, ap length (data_whole requests p h.long), length-append (drop 12 (visible requests p)) (opaque requests p), length-drop 12 p, h.whole, h.limited))

-- ---- a request

module _ (c : ℕ) (p : Bytes) (ends : Ends) (kind : ℕ) (t w o : Bytes) (h : Admitted false c t w o) (came : answer_of (read requests p) ≡ found kind ends)
    (plan : Plan) (is : plan ≡ plan_served c (request_in p) (table_of connection_count t)) where
  abbrev what : Request
  what = requested kind (argument_at p ends 0) (argument_at p ends 1) (argument_at p ends 2)

  plan_is : plan ≡ plan_served c what (table_of connection_count t)
  plan_is = is ∙ ap (λ (a : Request). plan_served c a (table_of connection_count t)) (asks p ends kind came)

  whole_table : Whole (table_of connection_count t)
  whole_table = whole t (sound h.bytes)

  follows : Follows (sends c p) t w o h.bytes plan c kind p ends
  unfolding bytes_sent opaque_of server_in
  follows =
      record {
        plans = rw (served_decided (server_in connection_count t w) c p (stands h), plan_is, asks p ends kind came)
            (served_planned _ c (table_of connection_count t) h.bytes.rules (request_suits kind _ _ _));
        shows = refl;
        hides = opaque_is p ends kind came;
      }

  pub request_small : plan.number ≤ last_number
  request_small = small_number _ t w o h.bytes plan c kind p ends follows

  pub request_ready : plan.number ≡ 0 → Ready plan c kind p ends t w o
  request_ready z =
      ready _ t w o h.bytes plan c kind p ends follows z
      (rw plan_is (served_fitting _ c (table_of connection_count t) whole_table h.inside (request_suits kind _ _ _) (good_arguments p ends kind came)))
      (sized plan.step (table_of connection_count t) whole_table)
      (rw plan_is (served_orderly c (table_of connection_count t) whole_table p ends kind came))
      (opaque_small p ends kind came)

  pub request_call : concluded plan c kind p ends t w o ≡ call connection_count (sends c p) t w o
  request_call = concluded_performed _ t w o h.bytes plan c kind p ends follows ∙ call_performed (sends c p) t w o h.usable

-- ---- a packet that is no request

module _ (c : ℕ) (r : Refusal) (n : ℕ) (en : n ≡ number_of r) (p t w o : Bytes) (h : Admitted false c t w o) (came : answer_of (read requests p) ≡ Err r) where
  asks_nothing : request_in p ≡ bad n
  unfolding request_in
  asks_nothing = rw (refused_answer requests (masked requests p) r (sym (answer_masked requests requests_well p) ∙ came), ← en)

  pub unread_small : n ≤ last_number
  unread_small = omega (arith, (bad_within_lem p n asks_nothing).1)

  unread_decided : decided (sends c p) (server_in connection_count t w) ≡ refuse c n (table_of connection_count t)
  unfolding served server_in
  unread_decided = served_decided (server_in connection_count t w) c p (stands h) ∙ ap (λ (a : Request). served c a (table_of connection_count t)) asks_nothing

  pub unread_call : left n (length (refusal_bytes c n)) (put 0 (refusal_bytes c n) o) t w ≡ call connection_count (sends c p) t w o
  unread_call =
      refusal_performed (sends c p) t w o h.bytes c n (λ z. absurd (omega (arith, (bad_within_lem p n asks_nothing).0))) unread_decided
      ∙ call_performed (sends c p) t w o h.usable

-- ---- open and close

-- the ends of no arguments
abbrev pub no_ends : Ends
no_ends = record { first = 0; second = 0; third = 0; fourth = 0; fifth = 0 }

nothing_opaque : [] ≡ opaque_in [] 0 no_ends
unfolding opaque_in opaque_place request_shape rules_of argument_at between
nothing_opaque = refl

-- what the caller of such an event needs
pub record Concludes (e : Event) (plan : Plan) (c : ℕ) (t w o : Bytes) (ends : Ends) : Type 0 where
  pub small : plan.number ≤ last_number
  pub carried : plan.number ≡ 0 → Ready plan c 0 [] ends t w o
  pub is : concluded plan c 0 [] ends t w o ≡ call connection_count e t w o

-- ---- packets that are no copy are the same whatever came

data Uncopied : Send → Type 0 where
  is_plain : {to kind : ℕ} {arguments : List Bytes} → Uncopied (plain to kind arguments)
  is_assignment : {uniq : Bool} {to p : ℕ} → Uncopied (assign uniq to p)

uncopied_same : (e f : Event) (s : Server) {ss : List Send} → All Uncopied ss → map (render e s) ss ≡ map (render f s) ss
unfolding render
uncopied_same e f s All.none = refl
uncopied_same e f s (All.more is_plain xs) = ap₂ ◌∷◌ refl (uncopied_same e f s xs)
uncopied_same e f s (All.more is_assignment xs) = ap₂ ◌∷◌ refl (uncopied_same e f s xs)

noops_uncopied : (ls : List ℕ) → All Uncopied (map noop ls)
noops_uncopied [] = All.none
noops_uncopied (l ∷ ls) = All.more is_plain (noops_uncopied ls)

-- an event without a packet: whatever it sends, no copy is among it
module _ (e : Event) (way : Bool) (c : ℕ) (t w o : Bytes) (h : Admitted way c t w o) (plan : Plan)
    (plans : (v : Words) → Planned v c (table_of connection_count t) plan (decided e (server_in connection_count t w))) (bare : opaque_of e ≡ [])
    (uncopied : All Uncopied (ordered plan.order connection_count c 0 (argument_at [] no_ends 0) (table_of connection_count t)))
    (orderly : Orderly plan.order (table_of connection_count t) [] no_ends 0 (argument_at [] no_ends 0))
    (fits : Fitting plan.change (argument_at [] no_ends 0) (argument_at [] no_ends 1) (argument_at [] no_ends 2)) where
  abbrev after : Values
  after = stepped plan.step (values_of (table_of connection_count t))

  quiet_follows : Follows e t w o h.bytes plan c 0 [] no_ends
  unfolding bytes_sent
  quiet_follows =
      record {
        plans = plans _;
        shows = ap sent_bytes (uncopied_same (sends c []) e (server_in connection_count t w) (all_append uncopied (noops_uncopied (to_wake_in after.able (dropped_rows after.rows) after.connections))));
        hides = sym (bare ∙ nothing_opaque);
      }

  quiet_concludes : Concludes e plan c t w o no_ends
  quiet_concludes =
      record {
        small = small_number e t w o h.bytes plan c 0 [] no_ends quiet_follows;
        carried = λ z.
            ready e t w o h.bytes plan c 0 [] no_ends quiet_follows z fits (sized plan.step (table_of connection_count t) (whole t (sound h.bytes)))
            orderly (omega (arith, ap length nothing_opaque));
        is = concluded_performed e t w o h.bytes plan c 0 [] no_ends quiet_follows ∙ call_performed e t w o h.usable;
      }

-- an open and a close order no packet
module _ (c : ℕ) (t w o : Bytes) (plan : Plan) (ends : Ends) (none : ends ≡ no_ends) where
  abbrev no_words : Words
  no_words = words_given 0 (argument_at [] no_ends 0) (argument_at [] no_ends 1) (argument_at [] no_ends 2)

  pub opening_concludes : Admitted true c t w o → plan ≡ plan_opening c → Concludes (opens c) plan c t w o ends
  unfolding opaque_of server_in ordered
  opening_concludes h e =
      rw (none, e)
      (quiet_concludes (opens c) true c t w o h (plan_opening c)
      (λ v. rw (opening_decided (server_in connection_count t w) c (stands h)) (opening_planned v c (table_of connection_count t) h.bytes.rules)) refl All.none zero-le
      (opening_fitting no_words c (table_of connection_count t) (whole t (sound h.bytes)) h.inside))

  pub closing_concludes : Admitted false c t w o → plan ≡ plan_closing c → Concludes (closes c) plan c t w o ends
  unfolding opaque_of server_in ordered
  closing_concludes h e =
      rw (none, e)
      (quiet_concludes (closes c) false c t w o h (plan_closing c)
      (λ v. rw (closing_decided (server_in connection_count t w) c (stands h)) (closing_planned v c (table_of connection_count t) h.bytes.rules)) refl All.none zero-le
      (closing_fitting no_words c (table_of connection_count t) (whole t (sound h.bytes)) h.inside))
