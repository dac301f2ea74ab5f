-- Events, packets and answers that differ in opaque bytes alone: same addresses, types, lengths and other bytes. Of two such events
-- the server decides the same at equal tables, and the packets sent differ in opaque bytes alone. Assumes nothing.
use Prim.Native.Nat.{ℕ, ◌+◌}
use mathlib.Core.Path.{◌≡◌, refl, ap, ap₂, sym, ◌∙◌}
use mathlib.Core.List.{◌∷◌, ◌++◌}
use lib.ListN.{length, drop, length-append}
use Rattle.octets.specs.Bytes.{Bytes, big_endian}
use Rattle.packet.specs.Packet.{packet, requests, responses}
use Rattle.packet.specs.Opaque.{visible, opaque, masked}
use Rattle.server.specs.Requests.{Event, opens, closes, sends, request_in}
use Rattle.server.specs.Events.{Send, plain, copy, assign}
use Rattle.server.specs.Server.{Server, Sent, Answer, shown_by, opaque_of, render, addressed, decided}
use Rattle.lists.proofs.Lists.{length_fit}
use Rattle.lists.proofs.Cases.{All2}

-- ---- what it is to differ in opaque bytes alone

-- the same opening or closing; or packets from one connection with the same visible bytes, and as many opaque ones
pub data Alike : Event → Event → Type 0 where
  opening : {c : ℕ} → Alike (opens c) (opens c)
  closing : {c : ℕ} → Alike (closes c) (closes c)
  sending : {c : ℕ} {a b : Bytes} → visible requests a ≡ visible requests b → length (opaque requests a) ≡ length (opaque requests b) → Alike (sends c a) (sends c b)

-- two packets to one connection, of one type, with the same bytes shown and as many opaque ones
pub record Like (p q : Sent) : Type 0 where
  pub to : p.to ≡ q.to
  pub kind : p.kind ≡ q.kind
  pub shown : p.shown ≡ q.shown
  pub size : length p.opaque_part ≡ length q.opaque_part

-- the same number, and as many packets, each like the other's
pub record Agree (a b : Answer) : Type 0 where
  pub number : a.number ≡ b.number
  pub sent : All2 Like a.sent b.sent

pub alike_same : (e : Event) → Alike e e
alike_same (opens c) = opening
alike_same (closes c) = closing
alike_same (sends c b) = sending refl refl

pub like_same : (p : Sent) → Like p p
like_same p = record { to = refl; kind = refl; shown = refl; size = refl }

-- ---- in bytes

-- an addressed packet's bytes before its opaque part: they end in what is shown
unfoldable pub bytes_before : Sent → Bytes
bytes_before p = p.to ∷ (responses.magic ++ (big_endian p.kind ++ (big_endian (length (p.shown ++ p.opaque_part)) ++ p.shown)))

pub addressed_is : (p : Sent) → addressed p ≡ bytes_before p ++ p.opaque_part
unfolding bytes_before packet
addressed_is p = refl

pub like_before : (p q : Sent) → Like p q → bytes_before p ≡ bytes_before q
unfolding bytes_before
like_before p q l =
    let n : length (p.shown ++ p.opaque_part) ≡ length (q.shown ++ q.opaque_part) = length-append p.shown _ ∙ ap₂ ◌+◌ (ap length l.shown) l.size ∙ sym (length-append q.shown _) in
    rw (n, l.to, l.kind, l.shown)

-- ---- what two events ask and show, if they are alike

pub request_alike : (a b : Bytes) → visible requests a ≡ visible requests b → length (opaque requests a) ≡ length (opaque requests b) → request_in a ≡ request_in b
unfolding request_in masked
request_alike a b v l = rw (v, l)

shown_alike : {e f : Event} → Alike e f → shown_by e ≡ shown_by f
unfolding shown_by
shown_alike opening = refl
shown_alike closing = refl
shown_alike (sending v l) = ap (drop 12) v

size_alike : {e f : Event} → Alike e f → length (opaque_of e) ≡ length (opaque_of f)
unfolding opaque_of
size_alike opening = refl
size_alike closing = refl
size_alike (sending v l) = l

-- ---- the decision, and the packets sent

-- at two servers with equal tables
pub decided_alike : {e f : Event} → Alike e f → (s r : Server) → s.table ≡ r.table → decided e s ≡ decided f r
unfolding decided
decided_alike opening s r q = rw q
decided_alike closing s r q = rw q
decided_alike (sending {c} {a} {b} v l) s r q = rw (q, request_alike a b v l)

pub like_render : {e f : Event} → Alike e f → (s r : Server) → s.table ≡ r.table → (x : Send) → Like (render e s x) (render f r x)
unfolding render
like_render a s r q (plain to kind as') = like_same _
like_render a s r q (copy to kind) = record { to = refl; kind = refl; shown = shown_alike a; size = size_alike a }
like_render a s r q (assign uniq to p) = record { to = refl; kind = refl; shown = rw q; size = rw q (simp length_fit) }
