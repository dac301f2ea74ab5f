-- Round trips of whole packets, for any direction and then for requests and for responses. Reading what was written gives the type
-- and arguments that were written; writing what was read is not refused and gives the bytes that were read. Assumes nothing.
use Prim.Native.Nat.{ℕ, ◌<◌, ◌≤◌}
use mathlib.Core.Path.{◌≡◌, ap, ◌∙◌}
use mathlib.Core.Bool.{true}
use mathlib.Core.List.{List}
use native.Mathlib.Omega.{arith}
use lib.ListN.{length, get_or, take, drop, length-drop}
use lib.Seq.{take-append_seam}
use Rattle.octets.specs.Bytes.{Bytes, number_at}
use Rattle.octets.specs.Put.{put}
use Rattle.octets.proofs.Laying.{put_start}
use Rattle.std.specs.Prelude.{Ok}
use Rattle.packet.specs.Layout.{rules_of, is_own}
use Rattle.packet.specs.Arguments.{fit_all, join, parts, split}
use Rattle.packet.specs.Packet.{Direction, requests, responses, got, read, packet, write_refusal}
use Rattle.packet.specs.Answers.{Writing, writing}
use Rattle.packet_laws.proofs.Splitting.{shapes_plain, join_split, split_join}
use Rattle.packet_laws.proofs.Packets.{Well, requests_well, responses_well, Laid, packet_laid, packet_again, Headed, header_good, good_header, Got, read_got, got_read, Accepted, unrefused_accepted, accepted_unrefused, finished_length}

-- what a writer answers, and leaves in the output, for a packet of this direction
abbrev pub written : Direction → Bytes → ℕ → List Bytes → Writing
written w out kind args = writing w.magic w.most (w.shape kind) out kind args

module _ (w : Direction) (well : Well w) where
  own_laid : (kind : ℕ) (d : Bytes) → is_own (w.shape kind) ≡ true → length d ≤ w.most → Laid w.magic kind d
  own_laid kind d o l = packet_laid w.magic kind d well.four (well.low kind o) (omega (arith, well.small))

  -- what is written reads back
  pub packet_reads : (kind : ℕ) (args : List Bytes) → is_own (w.shape kind) ≡ true → fit_all (rules_of (w.shape kind)) args ≡ true
      → length (join args) ≤ w.most → read w (packet w.magic kind (join args)) ≡ got kind args
  packet_reads kind args o f l =
      let s : Bytes = packet w.magic kind (join args) in
      let p : Laid w.magic kind (join args) = own_laid kind (join args) o l in
      let h : Headed w.magic w.most s = record { long = omega arith; starts = p.starts; limited = omega arith; whole = omega arith } in
      let d : split (rules_of (w.shape kind)) (drop 12 s) ≡ parts args = rw p.rest (join_split _ args f (shapes_plain (w.shape kind))) in
      got_read w s kind args (record { headed = good_header _ _ s h; typed = p.typed; own = o; splits = d })

  pub written_reads : (out : Bytes) (kind : ℕ) (args : List Bytes) (n : ℕ) (o : Bytes)
      → written w out kind args ≡ record { answer = Ok n; output = o } → read w (take n o) ≡ got kind args
  unfolding writing
  written_reads out kind args n o e =
      let p : Bytes = packet w.magic kind (join args) in
      let f = finished_length (write_refusal w.most (length out) (w.shape kind) args) p out n o e in
      let a : Accepted w.most (length out) (w.shape kind) args = unrefused_accepted _ _ _ _ f.0 in
      let l : Laid w.magic kind (join args) = own_laid kind (join args) a.own a.limited in
      let t : take n o ≡ p = rw (← f.1, ← f.2, put_start p out (omega arith), take-append_seam) in
      rw t (packet_reads kind args a.own a.fit a.limited)

  -- what is read writes back
  pub read_packet : (s : Bytes) (kind : ℕ) (args : List Bytes) → ((i : ℕ) → get_or s i 0 < 256) → read w s ≡ got kind args
      → packet w.magic kind (join args) ≡ s
  read_packet s kind args h e =
      let g : Got w s kind args = read_got w s kind args e in
      rw ((split_join _ (drop 12 s) args g.splits).0, ← g.typed) (packet_again w.magic w.most s well.four h (header_good _ _ s g.headed))

  pub read_writes : (s : Bytes) (kind : ℕ) (args : List Bytes) (out : Bytes) → ((i : ℕ) → get_or s i 0 < 256) → read w s ≡ got kind args → length s ≤ length out
      → written w out kind args ≡ record { answer = Ok (length s); output = put 0 s out }
  unfolding writing
  read_writes s kind args out h e l =
      let g : Got w s kind args = read_got w s kind args e in
      let j = split_join _ (drop 12 s) args g.splits in
      let d : Headed w.magic w.most s = header_good _ _ s g.headed in
      let n : length (join args) ≡ number_at s 8 = ap length j.0 ∙ omega (arith, length-drop 12 s, d.whole) in
      let a : write_refusal w.most (length out) (w.shape kind) args ≡ 0
      = accepted_unrefused _ _ _ args (record { own = g.own; fit = j.1; limited = omega (arith, d.limited); fill = omega (arith, d.whole) }) in
      rw (a, read_packet s kind args h e)

-- ---- for requests and for responses

pub request_written_reads : (out : Bytes) (kind : ℕ) (args : List Bytes) (n : ℕ) (o : Bytes)
    → written requests out kind args ≡ record { answer = Ok n; output = o } → read requests (take n o) ≡ got kind args
request_written_reads = written_reads requests requests_well

pub response_written_reads : (out : Bytes) (kind : ℕ) (args : List Bytes) (n : ℕ) (o : Bytes)
    → written responses out kind args ≡ record { answer = Ok n; output = o } → read responses (take n o) ≡ got kind args
response_written_reads = written_reads responses responses_well

pub request_read_writes : (s : Bytes) (kind : ℕ) (args : List Bytes) (out : Bytes) → ((i : ℕ) → get_or s i 0 < 256) → read requests s ≡ got kind args
    → length s ≤ length out → written requests out kind args ≡ record { answer = Ok (length s); output = put 0 s out }
request_read_writes = read_writes requests requests_well

pub response_read_writes : (s : Bytes) (kind : ℕ) (args : List Bytes) (out : Bytes) → ((i : ℕ) → get_or s i 0 < 256) → read responses s ≡ got kind args
    → length s ≤ length out → written responses out kind args ≡ record { answer = Ok (length s); output = put 0 s out }
response_read_writes = read_writes responses responses_well
