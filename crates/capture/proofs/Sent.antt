-- What answering a frame leaves in the output is addressed packets, one after the other: those that are sent. Assumes nothing.
use Prim.Native.Nat.{ℕ, ◌^◌, ◌<◌, ◌≤◌}
use mathlib.Core.Path.{◌≡◌, refl, ap, ◌∙◌}
use mathlib.Core.Bool.{Bool, true, false, not, cond, ◌||◌}
use Rattle.std.specs.Prelude.{Option, Some, None}
use mathlib.Core.List.{List, [], ◌∷◌, ◌++◌, map}
use native.Mathlib.Omega.{arith}
use lib.ListN.{length, take, length-append}
use lib.Seq.{take-append_seam}
use Rattle.octets.specs.Bytes.{Bytes, number_at}
use Rattle.octets.proofs.Strings.{number_written}
use Rattle.octets.proofs.Laying.{put_start, length_put}
use Rattle.packet.specs.Packet.{packet}
use Rattle.lists.specs.Lists.{concat}
use Rattle.server.specs.Sizes.{connection_count, output_size}
use Rattle.server.specs.Requests.{Event}
use Rattle.server.specs.Server.{Sent, addressed, answer}
use Rattle.server.specs.Call.{Result, server_in, too_short, is_sound, sent_bytes, refused_by, performed, call}
use Rattle.server_calls.proofs.Refusals.{taken}
use Rattle.server_calls.proofs.Output.{output_fits}
use Rattle.server_calls.proofs.EveryCall.{taken_running}
use Rattle.capture.specs.Packets.{packet_length, Addressed, Packed, packets_in}
use Rattle.capture.specs.Spoken.{answered_to, packets_to}
use Rattle.capture.proofs.Cutting.{packets_in_lem}

-- ---- one packet

sent_formed : (p : Sent) → length (addressed p) < 2 ^ 32 → length (addressed p) ≡ packet_length (addressed p)
unfolding packet
sent_formed p h =
    let d = p.shown ++ p.opaque_part in
    let n : number_at (addressed p) 9 ≡ length d = number_written (length d) d (omega arith) in
    rw n (omega arith)

pub all_formed : (ps : List Sent) → length (concat (map addressed ps)) < 2 ^ 32 → Addressed (map addressed ps)
all_formed [] h = tt
all_formed (p ∷ ps) h =
    let l = length-append (addressed p) (concat (map addressed ps)) in
    (sent_formed p (omega arith), all_formed ps (omega arith))

-- ---- what a call leaves

record Answered (r : Result) (ps : List Bytes) : Type 0 where
  formed : Addressed ps
  whole : take r.length' r.output ≡ concat ps
  inside : r.length' ≤ length r.output
  few : r.length' ≤ output_size connection_count

module _ (t w o : Bytes) where
  answered_refused : (n : ℕ) → Answered (refused_by n t w o) []
  unfolding refused_by
  answered_refused n = record { formed = tt; whole = refl; inside = omega arith; few = omega arith }

  answered_performed : (e : Event) → too_short connection_count t w o || not (is_sound connection_count t) ≡ false → Answered (performed e (server_in connection_count t w) t w o) (map addressed (answer e (server_in connection_count t w)).sent)
  unfolding performed sent_bytes
  answered_performed e q =
      let k = taken connection_count t w o q in
      let s = sent_bytes (answer e (server_in connection_count t w)).sent in
      let f : length s ≤ output_size connection_count = output_fits connection_count (omega arith) e (server_in connection_count t w) (taken_running connection_count t w o k) in
      let l : length s ≤ length o = omega (arith, k.long_output) in
      record {
        formed = all_formed (answer e (server_in connection_count t w)).sent (omega (arith, f));
        whole = ap (take (length s)) (put_start s o l) ∙ take-append_seam s _;
        inside = rw length_put l;
        few = f;
      }

  answered : (f : Option Event) → Answered (answered_to f t w o) (packets_to f t w o)
  unfolding answered_to packets_to call
  answered None = answered_refused 16
  answered (Some e) = go (too_short connection_count t w o || not (is_sound connection_count t)) refl
    where
      go : (b : Bool) → too_short connection_count t w o || not (is_sound connection_count t) ≡ b
          → Answered (cond b (refused_by 1 t w o) (performed e (server_in connection_count t w) t w o)) (cond b [] (map addressed (answer e (server_in connection_count t w)).sent))
      go true q = answered_refused 1
      go false q = answered_performed e q

  -- as a caller knows it: the length and the output that answering left
  module _ (f : Option Event) (r : Result) (q : r ≡ answered_to f t w o) where
    known : Answered r (packets_to f t w o)
    known = rw q (answered f)

    pub output_inside : r.length' ≤ length r.output
    output_inside = known.inside

    pub output_few : r.length' ≤ output_size connection_count
    output_few = known.few

    pub output_packed : Packed (take r.length' r.output)
    output_packed = record { packets = packets_to f t w o; formed = known.formed; whole = known.whole }

    pub output_packets : packets_in (take r.length' r.output) ≡ packets_to f t w o
    output_packets = packets_in_lem _ (packets_to f t w o) known.formed known.whole
