-- How a step meets the definition of the replay: its words are the answer's lines. Assumes nothing.
use Prim.Native.Nat.{ℕ, ◌+◌, ◌*◌, ◌<◌, ◌≤◌}
use mathlib.Core.Path.{◌≡◌}
use Rattle.std.specs.Prelude.{Option}
use native.Mathlib.Omega.{arith}
use lib.ListN.{length, take}
use Rattle.octets.specs.Bytes.{Bytes}
use Rattle.octets.specs.Put.{put}
use Rattle.server.specs.Requests.{Event}
use Rattle.server.specs.Replay.{frame, answer_lines}
use Rattle.server.specs.Call.{left}
use Rattle.capture.specs.Packets.{Packed, packets_in}
use Rattle.capture.specs.Spoken.{answered_to, telling}
use Rattle.capture.proofs.Sent.{output_few}
use Rattle.capture.proofs.Telling.{frame_told, sent_inside, sent_packed, short_told}
use Rattle.replay_line.specs.Replayed.{in_digits, text_size, replayed}

module _ (t w o : Bytes) where
  pub short_text : (line x : Bytes) → length x < text_size → telling 0 x o t w ≡ replayed line t w o x
  unfolding replayed
  short_text line x h = short_told t w o text_size in_digits line x h

  module _ (v : Option Event) (n l : ℕ) (p u s : Bytes) (q : left n l p u s ≡ answered_to v t w o) where
    -- packets were left, and their lines have room
    pub reply_packed : (room : ℕ) → text_size ≤ room → (l ≤ length p) × Packed (take l p) × (l * 3 + 3 ≤ room)
    reply_packed room h = (sent_inside t w o v n l p u s q, sent_packed t w o v n l p u s q, omega (arith, output_few t w o v (left n l p u s) q))

    pub replied : (line x : Bytes) → text_size ≤ length x → v ≡ frame line → (r : ℕ) (y : Bytes)
        → (r ≡ 0 + length (answer_lines (packets_in (take l p)) n)) × (y ≡ put 0 (answer_lines (packets_in (take l p)) n) x)
        → telling r y p u s ≡ replayed line t w o x
    unfolding replayed
    replied line x h e r y g = frame_told t w o v n l p u s q text_size in_digits line x h e r y g
