-- A whole text fed byte by byte to a buffer for one line, from a fresh table, as the programs do it: what is said of as much of each line
-- as the buffer holds is what a fresh server says of the text. Assumes nothing.
use Prim.Native.Nat.{ℕ, suc, ◌<◌, ◌≤◌}
use mathlib.Core.Path.{◌≡◌, refl, ap, ◌∙◌}
use mathlib.Core.Bool.{true}
use mathlib.Core.List.{List, [], ◌∷◌, map}
use lib.ListN.{length, take}
use Rattle.octets.specs.Bytes.{Bytes}
use Rattle.handle.specs.Handle.{is_hub_name}
use Rattle.lists.proofs.Maps.{map_map}
use Rattle.lines.specs.Text.{Seen, lines_of, cut, run_of}
use Rattle.lines.proofs.Texts.{text_lines}
use Rattle.server.specs.Sizes.{connection_count, workloads_size, output_size}
use Rattle.server.specs.Server.{Server, start}
use Rattle.server.specs.Layout.{table_size}
use Rattle.server.specs.Call.{make}
use Rattle.server.specs.Replay.{frame, longest_line, server_after}
use Rattle.capture.specs.Spoken.{Speech, said, spoken, spoken_text, texts_seen}
use Rattle.capture.proofs.Framing.{cut_line}
use Rattle.capture.proofs.Texts.{Fits, text_said}

-- what is cut off a line that is no frame changes nothing
spoken_cut : (says : ℕ → Speech) (n : ℕ) → longest_line < n → (k : ℕ) (lines : List Bytes) (s : Server) → spoken says k (map (take n) lines) s ≡ spoken says k lines s
unfolding spoken
spoken_cut says n h k [] s = refl
spoken_cut says n h k (line ∷ lines) s = rw (cut_line n h line, spoken_cut says n h (suc k) lines (server_after (frame line) s))

pub texts_cut : (buffer text : Bytes) → texts_seen (run_of buffer text) ≡ map (take (length buffer)) (lines_of text)
texts_cut buffer text =
    ap texts_seen (text_lines buffer text) ∙ map_map (λ (l : Seen). l.text) (cut (length buffer)) (take (length buffer)) (λ l. refl) (lines_of text)

-- on what is made of any bytes that are long enough
pub whole_said : (hub : Bytes) → is_hub_name hub ≡ true → (t w : Bytes) → table_size connection_count ≤ length t → workloads_size ≤ length w
    → (room : ℕ) (says : ℕ → Speech) → ((k : ℕ) → Fits room (says k))
    → (buffer text o x : Bytes) → longest_line < length buffer → output_size connection_count ≤ length o → room ≤ length x
    → said room says 1 (texts_seen (run_of buffer text)) (make connection_count hub t w).table (make connection_count hub t w).workloads o x ≡ spoken_text says hub text
whole_said hub good t w lt lw room says fits buffer text o x lb lo lx =
    ap (λ (ls : List Bytes). said room says 1 ls (make connection_count hub t w).table (make connection_count hub t w).workloads o x) (texts_cut buffer text)
    ∙ text_said room says fits t w lt lw hub good 1 (map (take (length buffer)) (lines_of text)) o x lo lx
    ∙ spoken_cut says (length buffer) lb 1 (lines_of text) (start connection_count hub)
