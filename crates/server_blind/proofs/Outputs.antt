-- Outputs that agree in everything but opaque bytes: packets that differ in opaque bytes alone have equal bytes at every place that
-- lies in no opaque part. Assumes nothing.
use Prim.Native.Nat.{ℕ, zero, suc, ◌+◌, ◌<◌, suc-le-suc}
use mathlib.Core.Path.{◌≡◌, refl, ap, ap₂, sym, ◌∙◌}
use mathlib.Core.Bool.{Bool, true, false}
use mathlib.Core.List.{List, [], ◌∷◌, ◌++◌, append_assoc}
use native.Mathlib.Omega.{arith}
use lib.ListN.{length, get_or, drop, replicate, length-append, length-replicate, get_or-append}
use lib.Seq.{get_or-append-add, get_or-drop}
use Rattle.octets.specs.Bytes.{Bytes}
use Rattle.packet.specs.Packet.{responses}
use Rattle.packet.specs.Opaque.{visible, opaque}
use Rattle.packet_laws.proofs.Blindness.{visible_opaque}
use Rattle.server.specs.Server.{Sent}
use Rattle.server.specs.Call.{Result, sent_bytes}
use Rattle.lists.proofs.Cases.{All, All2}
use Rattle.lists.proofs.Rows.{clash}
use Rattle.server_calls.specs.History.{Call}
use Rattle.server_blind.proofs.Alike.{Like, like_before}
use Rattle.server_blind.proofs.OpaqueParts.{packet_of, Apt}

-- ---- packets

-- two packets to one connection, by their bytes: the same ones are visible, and as many are opaque
pub record AlikeSent (p q : Sent) : Type 0 where
  pub to : p.to ≡ q.to
  pub visible : visible responses (packet_of p) ≡ visible responses (packet_of q)
  pub size : length (opaque responses (packet_of p)) ≡ length (opaque responses (packet_of q))

pub alike_sent : (p q : Sent) → Like p q → Apt p → Apt q → AlikeSent p q
alike_sent p q l a b =
    record {
      to = l.to;
      visible = ap (drop 1) (a.shows ∙ like_before p q l ∙ sym b.shows);
      size = ap length a.covers ∙ l.size ∙ sym (ap length b.covers);
    }

pub all_alike : {ps qs : List Sent} → All2 Like ps qs → All Apt ps → All Apt qs → All2 AlikeSent ps qs
all_alike All2.none All.none All.none = All2.none
all_alike (All2.more l ls) (All.more a as') (All.more b bs) = All2.more (alike_sent _ _ l a b) (all_alike ls as' bs)

-- ---- which bytes are opaque

-- of each byte of addressed packets: whether it lies in a packet's opaque part
unfoldable pub covered : List Sent → List Bool
covered [] = []
covered (p ∷ ps) = replicate (suc (length (visible responses (packet_of p)))) false ++ (replicate (length (opaque responses (packet_of p))) true ++ covered ps)

pub covered_same : {ps qs : List Sent} → All2 AlikeSent ps qs → covered ps ≡ covered qs
unfolding covered
covered_same All2.none = refl
covered_same (All2.more a rest) = rw (a.visible, a.size, covered_same rest)

more_bytes : (p : Sent) (ps : List Sent) → sent_bytes (p ∷ ps) ≡ (p.to ∷ visible responses (packet_of p)) ++ (opaque responses (packet_of p) ++ sent_bytes ps)
unfolding sent_bytes
more_bytes p ps =
    ap (λ (b : Bytes). (p.to ∷ b) ++ sent_bytes ps) (sym (visible_opaque responses (packet_of p)))
    ∙ append_assoc (p.to ∷ visible responses (packet_of p)) (opaque responses (packet_of p)) (sent_bytes ps)

pub length_covered : (ps : List Sent) → length (sent_bytes ps) ≡ length (covered ps)
unfolding covered sent_bytes
length_covered [] = refl
length_covered (p ∷ ps) =
    let v = visible responses (packet_of p) in
    let o = opaque responses (packet_of p) in
    let r = length_covered ps in
    let a : length (replicate (length v) false ++ (replicate (length o) true ++ covered ps)) ≡ length v + (length o + length (covered ps))
    = length-append (replicate (length v) false) _
    ∙ ap₂ ◌+◌ (length-replicate (length v) false) (length-append (replicate (length o) true) _ ∙ ap (λ (k : ℕ). k + length (covered ps)) (length-replicate (length o) true)) in
    ap length (more_bytes p ps) ∙ omega (arith, length-append v (o ++ sent_bytes ps), length-append o (sent_bytes ps))

-- a place that is not opaque lies in a packet
uncovered_inside : (l : List Bool) (i : ℕ) → get_or l i true ≡ false → i < length l
uncovered_inside [] i e = clash refl e
uncovered_inside (b ∷ l) zero e = omega arith
uncovered_inside (b ∷ l) (suc i) e = suc-le-suc (uncovered_inside l i e)

-- a front, opaque bytes of one length, and what follows them
around_opaque : (v x y : Bytes) (m : List Bool) (r q : Bytes) → length x ≡ length y → ((i : ℕ) → get_or m i true ≡ false → get_or r i 0 ≡ get_or q i 0)
    → (i : ℕ) → get_or (replicate (length v) false ++ (replicate (length x) true ++ m)) i true ≡ false → get_or (v ++ (x ++ r)) i 0 ≡ get_or (v ++ (y ++ q)) i 0
around_opaque [] [] [] m r q l f i e = f i e
around_opaque [] [] (b ∷ y) m r q l f i e = absurd (omega arith)
around_opaque [] (a ∷ x) [] m r q l f i e = absurd (omega arith)
around_opaque [] (a ∷ x) (b ∷ y) m r q l f zero e = clash refl e
around_opaque [] (a ∷ x) (b ∷ y) m r q l f (suc i) e = around_opaque [] x y m r q (omega arith) f i e
around_opaque (c ∷ v) x y m r q l f zero e = refl
around_opaque (c ∷ v) x y m r q l f (suc i) e = around_opaque v x y m r q l f i e

-- every byte that lies in no opaque part is equal
pub bytes_same : {ps qs : List Sent} → All2 AlikeSent ps qs → (i : ℕ) → get_or (covered ps) i true ≡ false → get_or (sent_bytes ps) i 0 ≡ get_or (sent_bytes qs) i 0
unfolding covered
bytes_same All2.none i e = refl
bytes_same (All2.more {a = p} {b = q} {xs = ps} {ys = qs} a rest) i e =
    let z : p.to ∷ visible responses (packet_of p) ≡ q.to ∷ visible responses (packet_of q) = ap₂ ◌∷◌ a.to a.visible in
    ap (λ (b : Bytes). get_or b i 0) (more_bytes p ps)
    ∙ around_opaque (p.to ∷ visible responses (packet_of p)) (opaque responses (packet_of p)) (opaque responses (packet_of q)) (covered ps) (sent_bytes ps) (sent_bytes qs) a.size (bytes_same rest) i e
    ∙ ap (λ (v : Bytes). get_or (v ++ (opaque responses (packet_of q) ++ sent_bytes qs)) i 0) z
    ∙ sym (ap (λ (b : Bytes). get_or b i 0) (more_bytes q qs))

-- ---- two calls

-- two calls with the same number, the same length and the same table after them. Each output begins with its packets, whole, and is
-- unchanged beyond them; the packets differ in opaque bytes alone, and R says more of them
pub record Match (R : Sent → Sent → Type 0) (x y : Call) (r q : Result) : Type 0 where
  pub number : r.number ≡ q.number
  pub length' : r.length' ≡ q.length'
  pub table : r.table ≡ q.table
  pub first : List Sent
  pub second : List Sent
  pub long : r.length' ≡ length (sent_bytes first)
  pub wrote : r.output ≡ sent_bytes first ++ drop r.length' x.output
  pub wrote_too : q.output ≡ sent_bytes second ++ drop q.length' y.output
  pub alike : All2 AlikeSent first second
  pub related : All2 R first second

-- so it is of each two calls of two histories
pub data Both (M : Call → Call → Result → Result → Type 0) : List Call → List Call → List Result → List Result → Type 0 where
  none : Both M [] [] [] []
  more : {x y : Call} {r q : Result} {xs ys : List Call} {rs qs : List Result} → M x y r q → Both M xs ys rs qs → Both M (x ∷ xs) (y ∷ ys) (r ∷ rs) (q ∷ qs)

module _ {R : Sent → Sent → Type 0} {x y : Call} {r q : Result} (m : Match R x y r q) where
  -- a written byte outside the opaque parts is equal
  pub written_same : (i : ℕ) → get_or (covered m.first) i true ≡ false → get_or r.output i 0 ≡ get_or q.output i 0
  written_same i e =
      let l = uncovered_inside (covered m.first) i e in
      let k = length_covered m.first in
      let j : length (sent_bytes m.second) ≡ length (sent_bytes m.first) = length_covered m.second ∙ sym (ap length (covered_same m.alike)) ∙ sym k in
      ap (λ (o : Bytes). get_or o i 0) m.wrote
      ∙ get_or-append (sent_bytes m.first) _ 0 i (omega arith)
      ∙ bytes_same m.alike i e
      ∙ sym (get_or-append (sent_bytes m.second) _ 0 i (omega arith))
      ∙ sym (ap (λ (o : Bytes). get_or o i 0) m.wrote_too)

  -- beyond the reported length each output is as it was lent
  pub beyond_kept : (i : ℕ) → get_or r.output (r.length' + i) 0 ≡ get_or x.output (r.length' + i) 0
  beyond_kept i =
      rw m.wrote (ap (λ (k : ℕ). get_or (sent_bytes m.first ++ drop r.length' x.output) (k + i) 0) m.long ∙ get_or-append-add (sent_bytes m.first) _ i 0 ∙ get_or-drop r.length' x.output i 0)
