-- The words of one line do not depend on opaque bytes: at two events that differ in opaque bytes alone, two running servers with
-- equal tables are spoken of alike. Assumes nothing.
use Prim.Native.Nat.{ℕ}
use mathlib.Core.Path.{◌≡◌, refl, ap, ap₂, ◌∙◌}
use Rattle.std.specs.Prelude.{Some, Option}
use mathlib.Core.List.{List, ◌++◌, map}
use Rattle.octets.specs.Bytes.{Bytes}
use Rattle.server.specs.declared.JobRow.{JobRow}
use Rattle.server.specs.Sizes.{connection_count}
use Rattle.server.specs.Table.{Table}
use Rattle.server.specs.Requests.{Event}
use Rattle.server.specs.Server.{Server, Sent, addressed, next, answer}
use Rattle.lists.proofs.Cases.{All2}
use Rattle.server_calls.proofs.Follows.{Running}
use Rattle.server_blind.proofs.Alike.{Alike, opening, closing, sending}
use Rattle.server_blind.proofs.Blind.{answer_alike, table_alike}
use Rattle.server_blind.proofs.OpaqueParts.{packet_of, sent_apt}
use Rattle.server_blind.proofs.Outputs.{AlikeSent, all_alike}
use Rattle.show_packet.specs.Lines.{response_line}
use Rattle.show_packet.proofs.Blind.{request_line_alike, response_line_alike}
use Rattle.show_table.specs.Standing.{below}
use Rattle.capture.specs.Packets.{packet_lines}
use Rattle.capture.specs.Spoken.{spoken_to}
use Rattle.show_parts.specs.Parts.{answer_text, event_text, heading_text, jobs_after, packet_jobs, sent_text, table_text}
use Rattle.show_line.specs.Shown.{line_text, line_with}
use Rattle.show_blind.proofs.Concerned.{concerned_alike}
use Rattle.show_blind.proofs.Headers.{digits_alike}

-- ---- what the line says

event_alike : {e f : Event} → Alike e f → event_text (Some e) ≡ event_text (Some f)
unfolding event_text
event_alike opening = refl
event_alike closing = refl
event_alike (sending {c = c} {a = a} {b = b} v l) = ap (λ (x : Bytes). below ++ x) (request_line_alike c a b v l)

-- ---- the packets sent

sent_alike : (p q : Sent) → AlikeSent p q → sent_text (addressed p) ≡ sent_text (addressed q)
unfolding sent_text
sent_alike p q a =
    ap (λ (x : Bytes). below ++ x)
    (response_line_alike p.to (packet_of p) (packet_of q) a.visible a.size ∙ ap (λ (c : ℕ). response_line c (packet_of q)) a.to)

packets_alike : {ps qs : List Sent} → All2 AlikeSent ps qs → packet_lines sent_text (map addressed ps) ≡ packet_lines sent_text (map addressed qs)
unfolding packet_lines
packets_alike All2.none = refl
packets_alike (All2.more {a = p} {b = q} a rest) = ap₂ {C = Bytes} (λ (x y : Bytes). x ++ y) (sent_alike p q a) (packets_alike rest)

-- ---- the jobs, and the line

module _ {ps qs : List Sent} (r : All2 AlikeSent ps qs) where
  jobs_alike : (hub : Bytes) {e f : Event} → Alike e f → (n : ℕ) (u v : List JobRow) → jobs_after hub (Some e) (map addressed ps) n u v ≡ jobs_after hub (Some f) (map addressed qs) n u v
  unfolding jobs_after
  jobs_alike hub opening n u v = refl
  jobs_alike hub closing n u v = refl
  jobs_alike hub (sending {a = a} {b = b} w l) n u v = ap (λ (s : Option ℕ). packet_jobs hub s u v) (concerned_alike hub a b w l r)

  line_alike : {e f : Event} → Alike e f → (k n : ℕ) (u t : Table) → line_text k (Some e) (map addressed ps) n u t ≡ line_text k (Some f) (map addressed qs) n u t
  unfolding line_with heading_text answer_text table_text
  line_alike a k n u t = rw (digits_alike a, event_alike a, packets_alike r, jobs_alike t.hub a n _ _)

-- ---- two servers

pub words_alike : {e f : Event} → Alike e f → (s r : Server) → Running connection_count s → Running connection_count r → s.table ≡ r.table → (k : ℕ)
    → spoken_to (line_text k) (Some e) s ≡ spoken_to (line_text k) (Some f) r
words_alike {e} {f} a s r h g q k =
    let b = answer_alike a s r q in
    let ps : All2 AlikeSent (answer e s).sent (answer f r).sent = all_alike b.sent (sent_apt connection_count e s h) (sent_apt connection_count f r g) in
    line_alike ps a k (answer e s).number s.table (next e s).table
    ∙ ap (λ (u : Table). line_text k (Some f) (map addressed (answer f r).sent) (answer e s).number u (next e s).table) q
    ∙ ap₂ {C = Bytes} (λ (n : ℕ) (t : Table). line_text k (Some f) (map addressed (answer f r).sent) n r.table t) b.number (table_alike a s r q)
