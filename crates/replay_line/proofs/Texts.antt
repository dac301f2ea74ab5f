-- A whole text replayed, from a fresh table of any hub, is what the server of that hub writes; at `lap` it is the replay of document 01
-- (`server/Replay: replay_of`). Assumes nothing.
use Prim.Native.Nat.{ℕ, suc, ◌<◌, ◌≤◌}
use mathlib.Core.Path.{◌≡◌, refl, ap, ap₂, ◌∙◌}
use mathlib.Core.Bool.{true}
use Rattle.std.specs.Prelude.{Option, Some, None}
use mathlib.Core.List.{List, [], ◌∷◌, ◌++◌}
use native.Mathlib.Omega.{arith}
use lib.ListN.{length, length-append}
use Rattle.octets.specs.Bytes.{Bytes, every}
use Rattle.handle.specs.Handle.{is_hub_name, lap}
use Rattle.lines.specs.Text.{lines_of, run_of}
use Rattle.server.specs.Sizes.{connection_count, workloads_size, output_size}
use Rattle.server.specs.Requests.{Event}
use Rattle.server.specs.Server.{Server, start}
use Rattle.server.specs.Layout.{table_size}
use Rattle.server.specs.Call.{make}
use Rattle.server.specs.Replay.{frame, longest_line, answer_lines, line_writes, server_after, replay_from, replay_of}
use Rattle.capture.specs.Packets.{packet_lines}
use Rattle.capture.specs.Spoken.{spoken_to, spoken, texts_seen}
use Rattle.capture.proofs.Lines.{lines_short}
use Rattle.capture.proofs.Texts.{Fits, text_said}
use Rattle.capture.proofs.Whole.{whole_said}
use Rattle.replay_line.specs.Replayed.{line_of, in_digits, text_size, replayed_text}
use Rattle.replay_line.proofs.Digits.{line_length, line_short, lines_answer}

digits_fit : Fits text_size in_digits
digits_fit f ps n u t g a h =
    omega (arith, ap length (lines_answer ps n), length-append (packet_lines line_of ps) (line_of (n ∷ [])), lines_short line_of 3 line_short ps a, line_length (n ∷ []))

-- ---- what is said in digits is the replay of document 01

line_written : (f : Option Event) (s : Server) → spoken_to in_digits f s ≡ line_writes f s
unfolding answer_lines
line_written None s = refl
line_written (Some e) s = refl

spoken_written : (k : ℕ) (lines : List Bytes) (s : Server) → spoken (λ m. in_digits) k lines s ≡ replay_from s lines
unfolding spoken replay_from
spoken_written k [] s = refl
spoken_written k (line ∷ lines) s =
    ap₂ {C = Bytes} (λ (a b : Bytes). a ++ b) (line_written (frame line) s) (spoken_written (suc k) lines (server_after (frame line) s))

-- from a fresh table of the hub of this name, in any bytes that are long enough
module _ (hub : Bytes) (good : is_hub_name hub ≡ true) (t w : Bytes) (lt : table_size connection_count ≤ length t) (lw : workloads_size ≤ length w) where
  pub replay_lines : (lines : List Bytes) (o x : Bytes) → output_size connection_count ≤ length o → text_size ≤ length x
      → replayed_text lines (make connection_count hub t w).table (make connection_count hub t w).workloads o x ≡ replay_from (start connection_count hub) lines
  replay_lines lines o x lo lx = text_said text_size (λ k. in_digits) (λ k. digits_fit) t w lt lw hub good 1 lines o x lo lx ∙ spoken_written 1 lines (start connection_count hub)

  -- from text to text, with a buffer for a line that holds one digit more than a frame has
  pub replay_whole : (buffer text o x : Bytes) → longest_line < length buffer → output_size connection_count ≤ length o → text_size ≤ length x
      → replayed_text (texts_seen (run_of buffer text)) (make connection_count hub t w).table (make connection_count hub t w).workloads o x ≡ replay_from (start connection_count hub) (lines_of text)
  replay_whole buffer text o x lb lo lx =
      whole_said hub good t w lt lw text_size (λ k. in_digits) (λ k. digits_fit) buffer text o x lb lo lx ∙ spoken_written 1 (lines_of text) (start connection_count hub)

lap_named : is_hub_name lap ≡ true
unfolding is_hub_name every
lap_named = refl

-- so at `lap` it is the replay of document 01. 02: "The replay program and document 01's cases keep `lap`"
pub replay_text : (t w : Bytes) → table_size connection_count ≤ length t → workloads_size ≤ length w
    → (buffer text o x : Bytes) → longest_line < length buffer → output_size connection_count ≤ length o → text_size ≤ length x
    → replayed_text (texts_seen (run_of buffer text)) (make connection_count lap t w).table (make connection_count lap t w).workloads o x ≡ replay_of text
unfolding replay_of
replay_text t w lt lw buffer text o x lb lo lx = replay_whole lap lap_named t w lt lw buffer text o x lb lo lx
