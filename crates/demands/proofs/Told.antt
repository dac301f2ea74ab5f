-- What a host reads in an output is what the server says: the packets, one by one, by type and arguments. Assumes nothing.
use Prim.Native.Nat.{ℕ, zero, suc, ◌+◌, ◌≤◌}
use mathlib.Core.Path.{◌≡◌, refl, ap, ap₂, sym, ◌∙◌}
use mathlib.Core.List.{List, [], ◌∷◌, ◌++◌, map}
use native.Mathlib.Omega.{arith}
use lib.ListN.{length, take, drop, length-append}
use lib.Seq.{take_at, drop_at, take-append_seam}
use Rattle.octets.specs.Bytes.{Bytes, number_at}
use Rattle.octets.specs.Put.{put}
use Rattle.octets.proofs.Laying.{put_start}
use Rattle.packet.specs.Packet.{Reading, got, read, responses}
use Rattle.packet_laws.proofs.Packets.{Headed, header_good, read_got}
use Rattle.packet_laws.proofs.Blindness.{number_front}
use Rattle.lists.proofs.Cases.{All}
use Rattle.server.specs.Sizes.{output_size}
use Rattle.server.specs.Requests.{Event}
use Rattle.server.specs.Events.{Send, plain, copy, assign}
use Rattle.server.specs.Server.{Server, render, answer, decided}
use Rattle.server.specs.Call.{sent_bytes, performed}
use Rattle.server_calls.proofs.Follows.{Running}
use Rattle.server_calls.proofs.Output.{output_fits}
use Rattle.server_blind.proofs.OpaqueParts.{packet_of}
use Rattle.demands.specs.Messages.{Addressed, cut, packets_in, message_in, told, message_of, messages_of}
use Rattle.demands.proofs.ReadsBack.{Reads, all_read}

-- a packet that is read, and what follows it: its size leads to its end
record Ends (p rest : Bytes) : Type 0 where
  size : 12 + number_at (p ++ rest) 8 ≡ length p

got_ends : (p rest : Bytes) (kind : ℕ) (args : List Bytes) → read responses p ≡ got kind args → Ends p rest
got_ends p rest kind args e =
    let h : Headed responses.magic responses.most p = header_good _ _ p (read_got responses p kind args e).headed in
    record { size = omega (arith, number_front p rest 8 (omega (arith, h.long)), h.whole) }

-- a packet as it is sent
abbrev pub sent_as : Event → Server → Send → Addressed
sent_as e s x = record { to = (render e s x).to; bytes = packet_of (render e s x) }

module _ (e : Event) (s : Server) where
  reads_ends : (x : Send) (rest : Bytes) → Reads e s x → Ends (packet_of (render e s x)) rest
  unfolding message_of
  reads_ends (plain to kind as') rest r = got_ends _ rest _ _ r
  reads_ends (copy to kind) rest r = got_ends _ rest _ _ r
  reads_ends (assign uniq to p) rest r = got_ends _ rest _ _ r

  pub same_message : (x : Send) → Reads e s x → message_in (sent_as e s x) ≡ message_of e s x
  unfolding render message_of
  same_message (plain to kind as') r = ap (λ (y : Reading). record { to = to; says = y }) r
  same_message (copy to kind) r = ap (λ (y : Reading). record { to = to; says = y }) r
  same_message (assign uniq to p) r = ap (λ (y : Reading). record { to = to; says = y }) r

  -- any bound on the number of packets will do
  cut_sent : (k : ℕ) (xs : List Send) → All (Reads e s) xs → length (sent_bytes (map (render e s) xs)) ≤ k → cut k (sent_bytes (map (render e s) xs)) ≡ map (sent_as e s) xs
  unfolding cut sent_bytes
  cut_sent zero [] All.none l = refl
  cut_sent (suc k) [] All.none l = refl
  cut_sent zero (x ∷ xs) (All.more r rs) l = absurd (omega arith)
  cut_sent (suc k) (x ∷ xs) (All.more r rs) l =
      let p = packet_of (render e s x) in
      let rest = sent_bytes (map (render e s) xs) in
      let n : 12 + number_at (p ++ rest) 8 ≡ length p = (reads_ends x rest r).size in
      let a : take (12 + number_at (p ++ rest) 8) (p ++ rest) ≡ p = take_at p rest _ (sym n) in
      let b : drop (12 + number_at (p ++ rest) 8) (p ++ rest) ≡ rest = drop_at p rest _ (sym n) in
      ap₂ ◌∷◌ (ap (λ (y : Bytes). record { to = (render e s x).to; bytes = y }) a) (ap (cut k) b ∙ cut_sent k xs rs (omega (arith, length-append p rest)))

  pub packets_sent_lem : (xs : List Send) → All (Reads e s) xs → packets_in (sent_bytes (map (render e s) xs)) ≡ map (sent_as e s) xs
  unfolding packets_in
  packets_sent_lem xs r = cut_sent _ xs r (omega arith)

  same_messages : (xs : List Send) → All (Reads e s) xs → map message_in (map (sent_as e s) xs) ≡ map (message_of e s) xs
  same_messages [] All.none = refl
  same_messages (x ∷ xs) (All.more r rs) = ap₂ ◌∷◌ (same_message x r) (same_messages xs rs)

  pub messages_read : (xs : List Send) → All (Reads e s) xs → map message_in (packets_in (sent_bytes (map (render e s) xs))) ≡ map (message_of e s) xs
  messages_read xs r = ap (map message_in) (packets_sent_lem xs r) ∙ same_messages xs r

  pub messages_sent : {n : ℕ} → Running n s → map message_in (packets_in (sent_bytes (answer e s).sent)) ≡ messages_of e s
  unfolding messages_of answer
  messages_sent {n} h = messages_read (decided e s).packets (all_read n e s h)

  -- what a call that is performed tells
  pub told_performed : (n : ℕ) → n ≤ 256 → Running n s → (t w o : Bytes) → output_size n ≤ length o → told (performed e s t w o) ≡ messages_of e s
  unfolding told performed
  told_performed n few h t w o l =
      let b = sent_bytes (answer e s).sent in
      let f = output_fits n few e s h in
      let q : put 0 b o ≡ b ++ drop (length b) o = put_start b o (omega arith) in
      ap (λ (y : Bytes). map message_in (packets_in y)) (ap (take (length b)) q ∙ take-append_seam b (drop (length b) o)) ∙ messages_sent h
