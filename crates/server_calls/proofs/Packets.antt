-- How many bytes the server's packets have: 13 and the data's. A packet that is passed on has at most 1,024 bytes of data, as has the
-- handle of which a status is asked. Assumes nothing.
use Prim.Native.Nat.{ℕ, ◌+◌, ◌*◌, ◌≤◌}
use mathlib.Core.Path.{◌≡◌, refl, sym, ap, ◌∙◌, subst}
use mathlib.Core.Bool.{Bool, true, false}
use mathlib.Core.List.{List, [], ◌∷◌, ◌++◌, map}
use native.Mathlib.Nat.{mul-zero, mul-suc}
use native.Mathlib.Omega.{arith}
use borrow.Author.Tests.{le-leb, leb-true}
use lib.ListN.{length, get_or, take, drop, length-append, length-take, length-drop, length-replicate, replicate, get_or-map}
use lib.Seq.{take_all}
use lib.Dec.{leb}
use Rattle.octets.specs.Bytes.{Bytes, number_at}
use Rattle.packet.specs.Layout.{rules_of, request_shape, separators_of}
use Rattle.packet.specs.Arguments.{join}
use Rattle.packet.specs.Packet.{Reading, refused, got, read, requests, packet}
use Rattle.packet.specs.Opaque.{past, hides, seen, visible, opaque, masked}
use Rattle.packet_laws.proofs.Packets.{Headed, header_good, Got, read_got}
use Rattle.packet_laws.proofs.Splitting.{split_join}
use Rattle.packet_laws.proofs.Blindness.{visible_opaque}
use Rattle.server.specs.Requests.{Event, sends, Request, reset, pre_sleep, echo, bad, can_do, cant_do, identify, grab, submit, work, get_status, option, requested, from_reading, request_in}
use Rattle.server.specs.Events.{Send, noop}
use Rattle.server.specs.Server.{Server, Sent, addressed, shown_by, opaque_of, render}
use Rattle.server.specs.Call.{sent_bytes}
use Rattle.lists.proofs.Cases.{cond_both}
use Rattle.lists.proofs.Rows.{clash, replicate_default}

-- ---- packets

pub length_addressed : (p : Sent) → length (addressed p) ≡ 13 + (length p.shown + length p.opaque_part)
unfolding packet
length_addressed p = simp length-append (omega arith)

-- the bytes of packets, as they are sent
unfoldable pub weighs : Event → Server → List Send → ℕ
weighs e s ss = length (sent_bytes (map (render e s) ss))

module _ (e : Event) (s : Server) where
  pub weigh_none : weighs e s [] ≡ 0
  unfolding weighs sent_bytes
  weigh_none = refl

  pub weigh_more : (x : Send) (ss : List Send) → weighs e s (x ∷ ss) ≡ 13 + (length (render e s x).shown + length (render e s x).opaque_part) + weighs e s ss
  unfolding weighs sent_bytes
  weigh_more x ss = length-append (addressed (render e s x)) _ ∙ ap (λ (k : ℕ). k + weighs e s ss) (length_addressed (render e s x))

  pub weigh_append : (ss rs : List Send) → weighs e s (ss ++ rs) ≡ weighs e s ss + weighs e s rs
  weigh_append [] rs = rw weigh_none (omega arith)
  weigh_append (x ∷ ss) rs = rw (weigh_more x (ss ++ rs), weigh_more x ss, weigh_append ss rs) (omega arith)

  noop_weight : (c : ℕ) → length (render e s (noop c)).shown + length (render e s (noop c)).opaque_part ≡ 0
  unfolding render join
  noop_weight c = refl

  pub weigh_noops : (cs : List ℕ) → weighs e s (map noop cs) ≡ 13 * length cs
  weigh_noops [] = rw mul-zero weigh_none
  weigh_noops (c ∷ cs) = rw (weigh_more (noop c) (map noop cs), weigh_noops cs, noop_weight c, mul-suc) (omega arith)

-- ---- the data of an event's packet

length_masked : (b : Bytes) → length (masked requests b) ≡ length b
unfolding masked
length_masked b =
    length-append (visible requests b) (replicate (length (opaque requests b)) 0)
    ∙ ap (λ (k : ℕ). length (visible requests b) + k) (length-replicate {A = ℕ} (length (opaque requests b)) 0)
    ∙ sym (length-append (visible requests b) (opaque requests b)) ∙ ap length (visible_opaque requests b)

-- a packet with a header shows it
header_visible : (b : Bytes) → 12 ≤ length b → 12 ≤ length (visible requests b)
unfolding visible seen
header_visible b h =
    cond_both (λ (k : ℕ). 12 ≤ length (take k b)) (hides requests b) (twelve b (past (separators_of (request_shape (number_at b 4))) (drop 12 b)) h) (rw (take_all (length b) b (omega arith)) h)
  where
    twelve : (b : Bytes) (k : ℕ) → 12 ≤ length b → 12 ≤ length (take (12 + k) b)
    twelve b k h = rw length-take (omega arith)

-- a packet that is read has at most 1,024 bytes of data
read_short : (s : Bytes) (kind : ℕ) (args : List Bytes) → read requests s ≡ got kind args → (12 ≤ length s) × (length s ≤ 1036)
read_short s kind args e =
    let g : Got requests s kind args = read_got requests s kind args e in
    let h : Headed requests.magic 1024 s = header_good requests.magic 1024 s g.headed in
    (h.long, omega (arith, h.whole, h.limited))

abbrev pub is_bad : Request → Bool
is_bad (bad n) = true
is_bad reset = false
is_bad pre_sleep = false
is_bad echo = false
is_bad (can_do f) = false
is_bad (cant_do f) = false
is_bad (identify i) = false
is_bad (grab uniq) = false
is_bad (submit priority background f u size) = false
is_bad (work how kind h n d) = false
is_bad (get_status h) = false
is_bad (option name) = false

sends_short : (c : ℕ) (b : Bytes) (r : Reading) → read requests (masked requests b) ≡ r → is_bad (from_reading r) ≡ false → length (shown_by (sends c b)) + length (opaque_of (sends c b)) ≤ 1024
unfolding shown_by opaque_of
sends_short c b (refused n) e h = clash refl h
sends_short c b (got kind args) e h =
    let l = read_short (masked requests b) kind args e in
    let m = length_masked b in
    let v = header_visible b (omega (arith, l.0)) in
    let a : length (visible requests b) + length (opaque requests b) ≡ length b = sym (length-append (visible requests b) (opaque requests b)) ∙ ap length (visible_opaque requests b) in
    omega (arith, l.1, length-drop 12 (visible requests b))

pub data_short : (c : ℕ) (b : Bytes) (a : Request) → request_in b ≡ a → is_bad a ≡ false → length (shown_by (sends c b)) + length (opaque_of (sends c b)) ≤ 1024
unfolding request_in
data_short c b a q h = sends_short c b (read requests (masked requests b)) refl (rw q h)

-- ---- the handle of which a status is asked

join_first : (args : List Bytes) → length (get_or args 0 []) ≤ length (join args)
unfolding join
join_first [] = omega arith
join_first (a ∷ []) = omega arith
join_first (a ∷ (b ∷ bs)) = omega (arith, length-append a (0 ∷ join (b ∷ bs)))

abbrev handle_within : Request → Bool
handle_within (get_status h) = leb (length h) 1024
handle_within (bad n) = true
handle_within reset = true
handle_within pre_sleep = true
handle_within echo = true
handle_within (can_do f) = true
handle_within (cant_do f) = true
handle_within (identify i) = true
handle_within (grab uniq) = true
handle_within (submit priority background f u size) = true
handle_within (work how kind h n d) = true
handle_within (option name) = true

requested_within : (kind : ℕ) (a b c : Bytes) → leb (length a) 1024 ≡ true → handle_within (requested kind a b c) ≡ true
unfolding requested
requested_within kind a b c e = rw (← (get_or-map handle_within), e) (replicate_default 35 kind true)

reading_within : (s : Bytes) (r : Reading) → read requests s ≡ r → handle_within (from_reading r) ≡ true
reading_within s (refused n) e = refl
reading_within s (got kind args) e =
    let g : Got requests s kind args = read_got requests s kind args e in
    let j = split_join (rules_of (request_shape kind)) (drop 12 s) args g.splits in
    let l = read_short s kind args e in
    requested_within kind (get_or args 0 []) _ _ (le-leb (length (get_or args 0 [])) 1024 (omega (arith, l.1, join_first args, ap length j.0, length-drop 12 s)))

pub handle_short : (b h : Bytes) → request_in b ≡ get_status h → length h ≤ 1024
unfolding request_in
handle_short b h q =
    leb-true (length h) 1024
    (subst (λ (a : Request). handle_within a ≡ true) q (reading_within (masked requests b) (read requests (masked requests b)) refl))
