-- The opaque part of a packet that the server sends is the opaque part of its bytes, as document 01 defines it for a response, and
-- the bytes shown are all others: for every event of a server that obeys the table rules. Assumes nothing.
use Prim.Native.Nat.{ℕ, ◌+◌, ◌^◌, ◌<◌, ◌≤◌}
use mathlib.Core.Path.{◌≡◌, refl, ap, sym, ◌∙◌, subst}
use mathlib.Core.Bool.{Bool, true, false, ◌&&◌}
use mathlib.Core.List.{List, [], ◌∷◌, ◌++◌, append-nil}
use native.Mathlib.Omega.{arith}
use borrow.Author.Tests.{eqb-true, leb-true}
use lib.ListN.{length, get_or, length-append}
use lib.Dec.{eqb, leb}
use Rattle.octets.specs.Bytes.{Bytes, first_zero, zero_free, big_endian, number_at}
use Rattle.octets.proofs.Strings.{and_left, and_right, number_written}
use Rattle.handle.specs.Handle.{handle}
use Rattle.handle.proofs.Handles.{handle_bounded, handle_clean}
use Rattle.packet.specs.Layout.{rules_of, response_shape, separators_of}
use Rattle.packet.specs.Arguments.{join}
use Rattle.packet.specs.Packet.{packet, header, responses}
use Rattle.packet.specs.Opaque.{ends_opaque, hides, visible, opaque}
use Rattle.packet_laws.proofs.Packets.{Headed, good_header, Laid, packet_laid}
use Rattle.packet_laws.proofs.Separators.{Heads}
use Rattle.packet_laws.proofs.Blindness.{Parted, parted_visible, parted_opaque, unhidden_visible, unhidden_opaque}
use Rattle.server.specs.Sizes.{name_size, unique_size}
use Rattle.server.specs.Table.{Table, no_function, no_job, function_at, job_at, live, queued}
use Rattle.server.specs.Rules.{text_within, stored_number, together, hub_named}
use Rattle.server.specs.Requests.{Event}
use Rattle.server.specs.Events.{Send, plain, copy, assign}
use Rattle.server.specs.Server.{Server, Sent, render, answer}
use Rattle.lists.proofs.Lists.{length_fit}
use Rattle.lists.proofs.Cases.{All, all_map}
use Rattle.server_laws.proofs.Packets.{Sends, why_sent}
use Rattle.lists.proofs.Rows.{implies_use, all_at, all_row}
use Rattle.server_laws.proofs.Going.{best_found}
use Rattle.server_laws.proofs.Obeyed.{obeyed}
use Rattle.server_calls.proofs.Follows.{Running}
use Rattle.server_blind.proofs.Alike.{bytes_before, addressed_is}
use Rattle.server_blind.proofs.Forwarded.{Forwarded, work_forwarded, echo_forwarded}

-- the packet without its connection byte
abbrev pub packet_of : Sent → Bytes
packet_of p = packet responses.magic p.kind (p.shown ++ p.opaque_part)

-- what is visible and what is opaque of its bytes is what the server shows and what it does not
pub record Apt (p : Sent) : Type 0 where
  pub shows : p.to ∷ visible responses (packet_of p) ≡ bytes_before p
  pub covers : opaque responses (packet_of p) ≡ p.opaque_part

-- ---- a packet by its type

type_at : (kind : ℕ) (d : Bytes) → kind < 2 ^ 32 → number_at (packet responses.magic kind d) 4 ≡ kind
unfolding packet
type_at kind d k = number_written kind [] k

and_never : (a : Bool) → a && false ≡ false
and_never true = refl
and_never false = refl

-- a type without an opaque argument
apt_plain : (p : Sent) → p.kind < 2 ^ 32 → ends_opaque (rules_of (response_shape p.kind)) ≡ false → p.opaque_part ≡ [] → Apt p
unfolding hides
apt_plain p k e o =
    let h : hides responses (packet_of p) ≡ false = rw (type_at p.kind (p.shown ++ p.opaque_part) k, e) (and_never (eqb (header responses.magic responses.most (packet_of p)) 0)) in
    record {
      shows = ap (λ (b : Bytes). p.to ∷ b) (unhidden_visible responses (packet_of p) h) ∙ addressed_is p ∙ ap (λ (b : Bytes). bytes_before p ++ b) o ∙ append-nil (bytes_before p);
      covers = unhidden_opaque responses (packet_of p) h ∙ sym o;
    }

-- a type whose last argument is opaque: its data shows the separators that the type demands, and fits a response
apt_opaque : (p : Sent) → p.kind < 2 ^ 32 → length p.shown + length p.opaque_part ≤ 1088 → ends_opaque (rules_of (response_shape p.kind)) ≡ true
    → Heads (separators_of (response_shape p.kind)) p.shown → Apt p
unfolding packet bytes_before
apt_opaque p k l e h =
    let d : Bytes = p.shown ++ p.opaque_part in
    let f : Bytes = responses.magic ++ (big_endian p.kind ++ big_endian (length d)) in
    let n : length d ≤ 1088 = rw length-append l in
    let q : number_at f 4 ≡ p.kind = number_written p.kind [] k in
    let laid : Laid responses.magic p.kind d = packet_laid responses.magic p.kind d refl k (omega arith) in
    let head : Headed responses.magic responses.most (packet_of p)
    = record { long = omega (arith, laid.whole); starts = laid.starts; limited = omega (arith, laid.sized); whole = omega (arith, laid.whole, laid.sized) } in
    let parted : Parted responses f p.shown = record {
      head = refl;
      closes = subst (λ (m : ℕ). ends_opaque (rules_of (response_shape m)) ≡ true) (sym q) e;
      pieces = subst (λ (m : ℕ). Heads (separators_of (response_shape m)) p.shown) (sym q) h;
    } in
    let good : header responses.magic responses.most (f ++ (p.shown ++ p.opaque_part)) ≡ 0 = good_header _ _ (packet_of p) head in
    record {
      shows = ap (λ (b : Bytes). p.to ∷ b) (parted_visible responses f p.shown p.opaque_part parted good);
      covers = parted_opaque responses f p.shown p.opaque_part parted good;
    }

-- ---- each packet that an event sends

module _ (e : Event) (s : Server) where
  abbrev Fits : Send → Type 0
  Fits x = Apt (render e s x)

  fits_plain : (to kind : ℕ) (args : List Bytes) → kind < 2 ^ 32 → ends_opaque (rules_of (response_shape kind)) ≡ false → Fits (plain to kind args)
  unfolding render
  fits_plain to kind args k q = apt_plain (render e s (plain to kind args)) k q refl

  fits_copy : (to kind : ℕ) → Forwarded e kind → Fits (copy to kind)
  unfolding render
  fits_copy to kind g = go (ends_opaque (rules_of (response_shape kind))) refl
    where
      go : (b : Bool) → ends_opaque (rules_of (response_shape kind)) ≡ b → Fits (copy to kind)
      go true q = apt_opaque (render e s (copy to kind)) g.low (omega (arith, g.small)) q (g.heads q)
      go false q = apt_plain (render e s (copy to kind)) g.low q (g.none q)

-- ---- assignments

-- the hub has a name; the texts of an unfinished job have no zero byte, and it is short enough
record Texts (t : Table) (p : ℕ) : Type 0 where
  hub : hub_named t ≡ true
  function : first_zero (function_at t (job_at t p).row.function).name ≡ length (function_at t (job_at t p).row.function).name
  unique : first_zero (job_at t p).unique ≡ length (job_at t p).unique
  small : together t (job_at t p) ≤ 1022

texts : (n : ℕ) (s : Server) → Running n s → (p : ℕ) → p < length s.table.jobs → live (job_at s.table p).row ≡ true → Texts s.table p
unfolding first_zero
texts n s h p i l =
    let t = s.table in
    let j = job_at t p in
    let o = (obeyed t h.rules).sound in
    let f = (function_at t j.row.function).name in
    let u : text_within unique_size j.unique && (stored_number j.numerator && stored_number j.denominator) ≡ true = implies_use (live j.row) _ (all_at _ t.jobs p no_job o.texts i) l in
    record {
      hub = o.named;
      function = eqb-true _ _ (and_right (leb (length f) 32) (zero_free f) (all_row (λ x. text_within name_size x.name) t.functions j.row.function no_function o.names refl));
      unique = eqb-true _ _ (and_right (leb (length j.unique) 64) (zero_free j.unique) (and_left (text_within unique_size j.unique) _ u));
      small = leb-true _ 1022 (all_at (λ k. leb (together t k) 1022) t.jobs p no_job o.sizes i);
    }

module _ (e : Event) (s : Server) (to p : ℕ) (x : Texts s.table p) where
  no_zero : (n : ℕ) → first_zero (handle s.table.hub n) ≡ length (handle s.table.hub n)
  no_zero n = eqb-true _ _ (handle_clean s.table.hub x.hub n)

  fits_assigned : (uniq : Bool) → Apt (render e s (assign uniq to p))
  unfolding render join rules_of response_shape
  fits_assigned true =
      let t = s.table in
      let j = job_at t p in
      let f = (function_at t j.row.function).name in
      let m = handle_bounded t.hub x.hub j.row.serial in
      apt_opaque (render e s (assign true to p)) (omega arith)
      (rw (length_fit j.row.size (get_or s.workloads p []), length-append (handle t.hub j.row.serial) (0 ∷ (f ++ (0 ∷ (j.unique ++ (0 ∷ []))))), length-append f (0 ∷ (j.unique ++ (0 ∷ []))), length-append j.unique (0 ∷ []))
      (omega (arith, x.small)))
      refl (Heads.more _ _ (no_zero _) refl (Heads.more _ _ x.function refl (Heads.more _ _ x.unique refl Heads.none)))
  fits_assigned false =
      let t = s.table in
      let j = job_at t p in
      let f = (function_at t j.row.function).name in
      let m = handle_bounded t.hub x.hub j.row.serial in
      apt_opaque (render e s (assign false to p)) (omega arith)
      (rw (length_fit j.row.size (get_or s.workloads p []), length-append (handle t.hub j.row.serial) (0 ∷ (f ++ (0 ∷ []))), length-append f (0 ∷ []))
      (omega (arith, x.small)))
      refl (Heads.more _ _ (no_zero _) refl (Heads.more _ _ x.function refl Heads.none))

-- ---- every event

-- each packet, by the reason why it is sent
fits_sent : (n : ℕ) (s : Server) → Running n s → {last : ℕ} {e : Event} {x : Send} → Sends s.table last e x → Fits e s x
unfolding rules_of response_shape
fits_sent n s h (Sends.an_error c b m r) = fits_plain _ s c 19 _ (omega arith) refl
fits_sent n s h (Sends.no_job_lem c b uniq q r) = fits_plain _ s c 10 [] (omega arith) refl
fits_sent n s h (Sends.the_job c b uniq q p r) =
    let (i, g) = best_found s.table c p r in
    let l = and_left (live (job_at s.table p).row) _ (and_left (queued (job_at s.table p).row) _ g) in
    fits_assigned _ s c p (texts n s h p i l) uniq
fits_sent n s h (Sends.handle_joined c b priority background f u size q p r) = fits_plain _ s c 8 _ (omega arith) refl
fits_sent n s h (Sends.handle_made c b priority background f u size q l m) = fits_plain _ s c 8 _ (omega arith) refl
fits_sent n s h (Sends.a_copy c b how kind j x y q p r l m w) = fits_copy _ s l kind (work_forwarded c b how kind j x y q)
fits_sent n s h (Sends.a_failure c b how kind j x y q p r l m w) = fits_plain _ s l 14 _ (omega arith) refl
fits_sent n s h (Sends.a_status c b j q o r) = fits_plain _ s c 20 _ (omega arith) refl
fits_sent n s h (Sends.an_option_lem c b name q r) = fits_plain _ s c 27 _ (omega arith) refl
fits_sent n s h (Sends.an_echo c b q) = fits_copy _ s c 17 (echo_forwarded c b q)
fits_sent n s h (Sends.a_noop l) = fits_plain _ s l 6 [] (omega arith) refl

pub sent_apt : (n : ℕ) (e : Event) (s : Server) → Running n s → All Apt (answer e s).sent
unfolding answer
sent_apt n e s h = all_map (render e s) (λ x q. fits_sent n s h q) (why_sent e s)
