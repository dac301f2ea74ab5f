-- How a step over one line meets the definition, whatever the words: what answering the frame left has room, and the words that were
-- laid are those of what it left. Assumes nothing.
use Prim.Native.Nat.{ℕ, ◌+◌, ◌<◌, ◌≤◌}
use mathlib.Core.Path.{◌≡◌, sym, ap}
use Rattle.std.specs.Prelude.{Option}
use native.Mathlib.Nat.{zero-add}
use native.Mathlib.Omega.{arith}
use borrow.Author.Tests.{lt-ltb, le-ltb}
use lib.ListN.{length, take}
use lib.Seq.{length-take-le}
use Rattle.octets.specs.Bytes.{Bytes}
use Rattle.octets.specs.Put.{put}
use Rattle.server.specs.Sizes.{connection_count, output_size}
use Rattle.server.specs.Requests.{Event}
use Rattle.server.specs.Layout.{table_of}
use Rattle.server.specs.Call.{Result, left}
use Rattle.server.specs.Replay.{frame}
use Rattle.capture.specs.Packets.{Packed, packets_in}
use Rattle.capture.specs.Spoken.{Speech, answered_to, packets_to, saying, telling, told_of, told}
use Rattle.capture.proofs.Sent.{output_few, output_inside, output_packed, output_packets}

module _ (t w o : Bytes) where
  pub short_told : (room : ℕ) (say : Speech) (line x : Bytes) → length x < room → telling 0 x o t w ≡ told room say line t w o x
  unfolding told
  short_told room say line x h = sym (rw (lt-ltb (length x) room h))

  module _ (v : Option Event) (n l : ℕ) (p u s : Bytes) (q : left n l p u s ≡ answered_to v t w o) where
    pub sent_inside : l ≤ length p
    sent_inside = output_inside t w o v (left n l p u s) q

    pub sent_packed : Packed (take l p)
    sent_packed = output_packed t w o v (left n l p u s) q

    pub sent_few : length (take l p) ≤ output_size connection_count
    sent_few = omega (arith, length-take-le l p sent_inside, output_few t w o v (left n l p u s) q)

    pub frame_told : (room : ℕ) (say : Speech) (line x : Bytes) → room ≤ length x → v ≡ frame line → (r : ℕ) (y : Bytes)
        → (r ≡ 0 + length (say v (packets_in (take l p)) n (table_of connection_count t) (table_of connection_count u))) × (y ≡ put 0 (say v (packets_in (take l p)) n (table_of connection_count t) (table_of connection_count u)) x)
        → telling r y p u s ≡ told room say line t w o x
    unfolding told told_of
    frame_told room say line x h e r y g =
        rw (le-ltb (length x) room h, ← e, g.0, zero-add, g.1, output_packets t w o v (left n l p u s) q)
        (ap (λ (z : Result). saying (say v (packets_to v t w o) z.number (table_of connection_count t) (table_of connection_count z.table)) x z.output z.table z.workloads) q)
