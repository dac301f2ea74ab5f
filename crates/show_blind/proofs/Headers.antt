-- The digits that are shown of a frame do not depend on opaque bytes: a header stands before them. Assumes nothing.
use mathlib.Core.Path.{◌≡◌, refl, ap, sym, ◌∙◌}
use mathlib.Core.Bool.{Bool, true, false, cond}
use Rattle.std.specs.Prelude.{Some}
use mathlib.Core.List.{[]}
use lib.ListN.{length, take}
use lib.Dec.{ltb}
use Rattle.octets.specs.Bytes.{Bytes}
use Rattle.packet.specs.Opaque.{hides, masked, opaque, visible, with_opaque}
use Rattle.packet.specs.Packet.{Reading, refused, got, read, requests}
use Rattle.packet_laws.proofs.Packets.{requests_well}
use Rattle.packet_laws.proofs.Blindness.{read_alike, read_masked}
use Rattle.server.specs.Requests.{Event}
use Rattle.server_blind.proofs.Alike.{Alike, opening, closing, sending}
use Rattle.show_packet.proofs.Blind.{same_header, same_packet}
use Rattle.show_parts.specs.Parts.{digits_text, frame_digits, header_in, header_seen}

-- whichever opaque part is put back
header_masked : (b o : Bytes) (r : Reading) → header_in b (with_opaque requests o r) ≡ header_in b r
unfolding with_opaque
header_masked b o (refused n) = refl
header_masked b o (got k as') = refl

header_front : (a b : Bytes) → take 12 a ≡ take 12 b → (r : Reading) → header_in a r ≡ header_in b r
header_front a b e (refused n) = ap (λ (h : Bytes). cond (ltb n 9) [] h) e
header_front a b e (got k as') = e

header_alike : (a b : Bytes) → visible requests a ≡ visible requests b → length (opaque requests a) ≡ length (opaque requests b) → header_seen a ≡ header_seen b
unfolding header_seen
header_alike a b v l = either (hides requests a) refl
  where
    either : (h : Bool) → hides requests a ≡ h → header_in a (read requests a) ≡ header_in b (read requests b)
    either false e = ap header_seen (same_packet requests requests_well a b v l e)
    either true e =
        let m : Reading = read requests (masked requests a) in
        ap (header_in a) (read_masked requests requests_well a)
        ∙ header_masked a (opaque requests a) m
        ∙ header_front a b (same_header requests requests_well a b v l e) m
        ∙ sym (ap (header_in b) (read_alike requests requests_well a b v l) ∙ header_masked b (opaque requests b) m)

pub digits_alike : {e f : Event} → Alike e f → digits_text (Some e) ≡ digits_text (Some f)
unfolding digits_text
digits_alike opening = refl
digits_alike closing = refl
digits_alike (sending {c = c} {a = a} {b = b} v l) = ap (frame_digits 3 c) (header_alike a b v l)
